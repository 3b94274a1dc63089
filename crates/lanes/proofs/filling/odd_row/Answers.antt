-- `lanes::filling::odd_row` meets its contract: `Stored` has it for each of the 256 bytes. Assumes nothing.
use Rattle.std.proofs.Common.{ℕ, ◌*◌, cond, ◌∙◌, ap₂, arith}
use Rattle.lanes.proofs.Stored.{odd_is}
use Rattle.lanes.proofs.filling.odd_row.Goals as goal

pub returns : goal.returns
returns c =
    let a = c.args in
    c.pick.ensures ∙ ap₂ (λ (x y : ℕ). cond a.mode (x * 256) y) c.codes_row.ensures.0 c.bits_row.ensures.0 ∙ odd_is a.mode a.b (omega arith)
