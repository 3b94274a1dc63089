-- `lanes::filling::first_row` meets its contract: `Stored` has it for each of the 256 bytes. Assumes nothing.
use Rattle.std.proofs.Common.{ℕ, ◌+◌, ◌*◌, ◌/◌, ap, ◌∙◌, arith}
use Rattle.lanes.proofs.Stored.{first_form, first-is}
use Rattle.lanes.proofs.filling.first_row.Goals as goal

pub returns : goal.returns
returns c =
    let a = c.args in
    ap (λ (n : ℕ). c.spread_row-v.result / 256 * 256 + n) c.adjust.ensures.0 ∙ ap first_form c.spread_row-v.ensures.0 ∙ first-is a.mode a.b (omega arith)
