-- `pvrtc::plain::decode_block_row` meets its contract. The loop keeps that the first bx blocks of the row are laid. Assumes nothing.
use Rattle.std.proofs.Common.{◌+◌, ◌-◌, ◌*◌, ◌≤◌}
use Rattle.grid.specs.Grid.{block_width}
use Rattle.paint.proofs.Sheets.{BlocksLaid}
use Rattle.texel.specs.Texel.{grid_texel}
use Rattle.pvrtc.proofs.plain.decode_block_row.Given as goal

abbrev pub invariant-loop-bx : goal.invariant-loop-bx
invariant-loop-bx l =
    (l.bx ≤ l.bx-end) × BlocksLaid l.row (block_width l.fn.g.is2bpp) (λ x y. grid_texel l.order l.fn.g l.data x (l.by * 4 + y)) l.initial.image l.bx l.image

abbrev pub decreases-loop-bx : goal.decreases-loop-bx
decreases-loop-bx l = l.bx-end - l.bx
