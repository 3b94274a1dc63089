-- `lanes::filling::read_rule` meets its contract: the bits that say how it is filled are the word's. Assumes nothing.
use Rattle.std.proofs.Common.{ℕ, ◌<◌, get_or, arith}
use Rattle.lanes.proofs.Stored.{row-0, row-3, rule-is}
use Rattle.lanes.proofs.filling.read_rule.Goals as goal

pub returns : goal.returns
returns c =
    let a = c.args in
    let d = a.d.now in
    let small : (i : ℕ) → get_or d i 0 < 256 = λ i. omega (arith, c.type_inv.d i) in
    rule-is d a.at.above a.at.own a.at.below small c.mode_at-3.ensures
    (row-3 d a.at.above small c.mode_at.ensures c.odd_row.ensures) (row-0 d a.at.below small c.mode_at-2.ensures c.first_row.ensures)
