-- `pvrtc::plain::decode_block_row` meets its contract. The loop keeps that the first bx blocks of the row are laid. Assumes nothing.
use Rattle.std.proofs.Common.{ℕ, ◌+◌, ◌*◌, ◌<◌, refl, ap, ◌∙◌, arith}
use Rattle.grid.specs.Grid.{block_width}
use Rattle.grid.proofs.Counts.{wide, block_start}
use Rattle.paint.specs.Sheet.{columns_from}
use Rattle.paint.proofs.Sheets.{no_blocks, next-block}
use Rattle.texel.specs.Texel.{grid_texel}
use Rattle.pvrtc.proofs.plain.decode_block_row.Goals as goal
use Rattle.pvrtc.proofs.plain.decode_block_row.Goals.{In-loop-bx}

pub loop-bx-init : goal.loop-bx-init
loop-bx-init c =
    let a = c.args in
    (omega arith, no_blocks a.row (block_width a.g.is2bpp) (λ x y. grid_texel a.order a.g a.«data».now x (a.by * 4 + y)) a.image.now)

-- block bx starts within the row
starts : (c : In-loop-bx) → c.loop-bx.bx * c.block_width-width.result < c.args.row.width
starts c =
    let a = c.args in
    let some = rw c.num_blocks_x-bx-end.ensures at c.loop-bx-test.true in
    rw c.block_width-width.ensures
    (block_start (block_width a.g.is2bpp) a.row.width (wide a.g.is2bpp) c.loop-bx.bx some)

pub loop-bx-preserved : goal.loop-bx-preserved
loop-bx-preserved c =
    let a = c.args in
    let l = c.loop-bx in
    let width = c.block_width-width.ensures in
    let part = c.columns_from.ensures ∙ ap (λ (w : ℕ). columns_from a.row (l.bx * w) w) width in (
      omega (arith, c.loop-bx-test.true),
      next-block a.row (block_width a.g.is2bpp) (λ x y. grid_texel a.order a.g a.«data».now x (a.by * 4 + y)) a.image.now
          c.requires.fits l.bx _
          c.decode_block.ensures (rw width at (starts (goal.at.loop-bx-preserved c).In-loop-bx)) part (λ x y hx hy. refl) l.invariant.1,
    )
