-- A row of blocks: where its words stand, and what laying it asks and leaves. Assumes nothing: these are definitions.
use Rattle.std.specs.Prelude.{List, ℕ, ◌+◌, ◌*◌, ◌≤◌, ◌<◌, min}
use Rattle.grid.specs.declared.Grid.{Grid}
use Rattle.grid.specs.Grid.{block_width, blocks, log2, address, beside}
use Rattle.grid.specs.Words.{Stands}
use Rattle.paint.specs.declared.Sheet.{Sheet}
use Rattle.paint.specs.Sheet.{on_sheet, Fits}
use Rattle.pixel.specs.declared.ChannelOrder.{ChannelOrder}
use Rattle.texel.specs.Texel.{grid_texel}
use Rattle.lanes.specs.declared.Addresses.{Addresses}
use Rattle.lanes.specs.declared.RowAddresses.{RowAddresses}

-- The smaller side of a grid, and what its rows above, own and below row `by` add to an address.
unfoldable pub addresses_of : Grid → ℕ → RowAddresses
addresses_of g by =
    let m = min g.across g.down in
    record {
      smaller = m;
      above = address (log2 m) 0 (beside g.down by 0);
      own = address (log2 m) 0 (beside g.down by 1);
      below = address (log2 m) 0 (beside g.down by 2);
    }

-- The words of a column that adds `part` to an address.
abbrev pub column_words : RowAddresses → (part : ℕ) → Addresses
column_words row part = record { above = part + row.above; own = part + row.own; below = part + row.below }

-- Three words stand in a run of `len` bytes.
pub record InData (at : Addresses) (len : ℕ) : Type 0 where
  pub above : 8 * at.above + 8 ≤ len
  pub own : 8 * at.own + 8 ≤ len
  pub below : 8 * at.below + 8 ≤ len

-- Row `by` of a grid and its sheet are ready to be laid: the grid's words stand in `len` bytes and it has such a row; it has the blocks
-- that cover the sheet, and maybe more; the sheet has four rows at most, and its words are `room` lent ones.
pub record Ready (g : Grid) (by : ℕ) (row : Sheet) (len room : ℕ) : Type 0 where
  pub words : Stands g len
  pub down : by < g.down
  pub cover : blocks (block_width g.is2bpp) row.width ≤ g.across
  pub few : row.height ≤ 4
  pub fits : Fits row room

-- The row of blocks laid on its sheet.
abbrev pub with_block_row : ChannelOrder → Grid → ℕ → Sheet → List ℕ → List ℕ → List ℕ
with_block_row order g by row d old = on_sheet row (λ x y. grid_texel order g d x (by * 4 + y)) old
