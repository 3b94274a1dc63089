-- `lanes::row::decode_row` meets its contract. The loop keeps the window before block bx and the blocks laid so far. Assumes nothing.
use Rattle.std.proofs.Common.{◌-◌, ◌≤◌}
use Rattle.lanes.proofs.Sliding.{Window, RowSoFar}
use Rattle.lanes.proofs.row.decode_row.Given as goal

abbrev pub invariant-loop-bx : goal.invariant-loop-bx
invariant-loop-bx g l =
    let depth = g.M.Modulation in
    (l.bx ≤ l.bx-end) × Window depth.stored depth.Good l.order l.g l.by l.data l.bx l.left l.own
    × RowSoFar l.order l.g l.by l.row l.width l.data l.initial.image l.bx l.image

abbrev pub decreases-loop-bx : goal.decreases-loop-bx
decreases-loop-bx g l = l.bx-end - l.bx
