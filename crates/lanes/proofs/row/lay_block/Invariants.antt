-- `lanes::row::lay_block` meets its contract. The loop keeps that the rows before row j are laid. Assumes nothing.
use Rattle.std.proofs.Common.{◌-◌, ◌≤◌}
use Rattle.paint.proofs.Laid.{Part}
use Rattle.lanes.specs.Block.{in_block}
use Rattle.lanes.proofs.row.lay_block.Given as goal

abbrev pub invariant-loop-j : goal.invariant-loop-j
invariant-loop-j g l =
    let depth = g.M.Modulation in
    let part = l.part in
    (l.j ≤ part.height)
    × Part (in_block depth.HALF (λ y. depth.says (depth.row_of l.said y)) l.left l.own l.right) l.initial.image part.start part.stride part.width l.j l.image

abbrev pub decreases-loop-j : goal.decreases-loop-j
decreases-loop-j g l = l.part.height - l.j
