-- `pvrtc::block_call::decode_picture` meets its contract. The loop keeps that the first rows of blocks are laid. Assumes nothing.
use Rattle.std.proofs.Common.{◌-◌, ◌≤◌}
use Rattle.paint.proofs.Sheets.{RowsLaid}
use Rattle.texel.specs.Texel.{grid_texel}
use Rattle.pvrtc.proofs.block_call.decode_picture.Given as goal

abbrev pub invariant-loop-by : goal.invariant-loop-by
invariant-loop-by l = (l.by ≤ l.by-end) × RowsLaid l.s 4 (grid_texel l.fn.p.order l.g l.data) l.initial.image l.by l.image

abbrev pub decreases-loop-by : goal.decreases-loop-by
decreases-loop-by l = l.by-end - l.by
