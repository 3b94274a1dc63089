-- `lanes::row::lay_row` meets its contract. The loop keeps the two sums of place i, and that the words before it are laid. Assumes nothing.
use Rattle.std.proofs.Common.{◌-◌, ◌*◌}
use Rattle.lanes.specs.Block.{in_row}
use Rattle.lanes.proofs.Laying.{RowLaid}
use Rattle.lanes.proofs.row.lay_row.Given as goal

abbrev pub invariant-loop-i : goal.invariant-loop-i
invariant-loop-i g l =
    let depth = g.M.Modulation in
    RowLaid l.h l.a l.b (in_row l.h (depth.says l.row) l.a l.b) l.initial.image l.at l.columns l.i l.sum_a l.sum_b l.image

abbrev pub decreases-loop-i : goal.decreases-loop-i
decreases-loop-i g l = 2 * l.h - l.i
