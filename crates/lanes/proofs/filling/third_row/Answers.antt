-- `lanes::filling::third_row` meets its contract: `Stored` has it for each of the 256 bytes. Assumes nothing.
use Rattle.std.proofs.Common.{ℕ, ◌+◌, ◌-◌, ◌*◌, ◌/◌, ◌%◌, cond, ap, ◌∙◌, arith}
use Rattle.lanes.proofs.Stored.{third_form, third-is}
use Rattle.lanes.proofs.filling.third_row.Goals as goal

pub returns : goal.returns
returns c =
    let a = c.args in
    let v = c.spread_row-v.result in
    let x = v / 4294967296 % 256 in
    ap (λ (n : ℕ). v - x * 4294967296 + n * 4294967296) (c.pick.ensures ∙ ap (λ (n : ℕ). cond a.bit n x) c.adjust.ensures.0)
    ∙ ap (third_form a.bit) c.spread_row-v.ensures.0
    ∙ third-is a.mode a.bit a.b (omega arith)
