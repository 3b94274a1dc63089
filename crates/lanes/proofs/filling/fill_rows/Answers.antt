-- `lanes::filling::fill_rows` meets its contract, row by row. Assumes nothing.
use Rattle.lanes.proofs.Stored.{filled-are}
use Rattle.lanes.proofs.filling.fill_rows.Goals as goal

pub returns : goal.returns
returns c =
    let a = c.args in
    let odds = c.pick-odds.ensures in
    let evens = c.pick-evens.ensures in
    filled-are a.left a.own a.right a.rule (rw odds at c.fill_row.ensures) (rw evens at c.fill_row-2.ensures)
    (rw odds at c.fill_row-3.ensures) (rw evens at c.fill_row-4.ensures)
