-- `paint::copy_block_buffer` meets its contract. The loop keeps that the first j rows of the block are laid. Assumes nothing.
use Rattle.std.proofs.Common.{◌+◌, ◌*◌, get_or}
use Rattle.paint.proofs.Laid.{Part}
use Rattle.paint.proofs.copy_block_buffer.Given as goal

abbrev pub invariant-loop-j : goal.invariant-loop-j
invariant-loop-j l =
    Part (λ x y. get_or l.buffer (y * l.bw + x) 0) l.initial.image l.part.start l.part.stride l.part.width l.j l.image
