-- Demand 1, against idle versions: inputs at which each of them would break a promise, at either depth, in either mode and in either order.
-- Assumes nothing: these are definitions.
use Rattle.std.specs.Prelude.{◌≡◌, Bool, List, ℕ, ◌+◌, ◌*◌, ◌%◌, ◌<◌, get_or, replicate, Result, Ok}
use Rattle.grid.specs.Grid.{half, block_width}
use Rattle.pixel.specs.declared.ChannelOrder.{ChannelOrder}
use Rattle.pvrtc.specs.Calls.{TexelRead, RowDecoded, BlockDecoded}
use Rattle.pvrtc.specs.Picture.{picture}
use Rattle.pvrtc.specs.Refusals.{texel_number, decoded_number}
use Rattle.pvrtc.specs.declared.GridMode.{GridMode}
use Rattle.pvrtc.specs.declared.Picture.{Picture}
use Rattle.demands.specs.Samples.{red_corner}
use Rattle.pvrtc.specs.declared.Refusal.{Refusal}

-- A plate that two blocks cover, red and black: side by side, and one above the other. Four blocks are enough for either mode.
abbrev pub beside2 : Bool → GridMode → ChannelOrder → Picture
beside2 two mode order = picture (2 * block_width two) 4 two mode order

abbrev pub below2 : Bool → GridMode → ChannelOrder → Picture
below2 two mode order = picture (block_width two) 8 two mode order

-- The lent words of a row and of a picture of either plate.
abbrev pub lent_row : Bool → List ℕ
lent_row two = replicate (2 * block_width two) 0

abbrev pub lent_image : Bool → List ℕ
lent_image two = replicate (8 * block_width two) 0

-- One colour: the first words are all v.
abbrev pub OneColour : (count v : ℕ) → List ℕ → Type 0
OneColour count v new = (k : ℕ) → k < count → get_or new k 0 ≡ v

-- The first block again: the second block across has its words.
abbrev pub FirstBlockAgain : Bool → (height : ℕ) → List ℕ → Type 0
FirstBlockAgain two height new =
    let w = 2 * block_width two in
    (x y : ℕ) → x < w → y < height → get_or new (y * w + x) 0 ≡ get_or new (y * w + x % block_width two) 0

-- The first row of blocks again: the second has its words.
abbrev pub FirstBlocksAgain : Bool → List ℕ → Type 0
FirstBlocksAgain two new =
    let w = block_width two in
    (x y : ℕ) → x < w → y < 8 → get_or new (y * w + x) 0 ≡ get_or new (y % 4 * w + x) 0

-- The first row again: every row has its words.
abbrev pub FirstRowAgain : Bool → List ℕ → Type 0
FirstRowAgain two new =
    let w = block_width two in
    (x y : ℕ) → x < w → y < 8 → get_or new (y * w + x) 0 ≡ get_or new x 0

-- What no outcome can be, at either depth, in either mode and in either order. The C calls' outcomes are these calls' (`SameInC`).
pub record NoIdling (two : Bool) (mode : GridMode) (order : ChannelOrder) : Type 0 where
  -- It refuses each time: these calls must not.
  pub texel-told : (r : Result ℕ Refusal) → TexelRead (beside2 two mode order) red_corner 0 0 r → texel_number r ≡ 0
  pub row_told : (new : List ℕ) (r : Result (Unit {0}) Refusal) → RowDecoded (beside2 two mode order) red_corner 2 (lent_row two) new r → decoded_number r ≡ 0
  pub block-told : (new : List ℕ) (r : Result (Unit {0}) Refusal) → BlockDecoded (beside2 two mode order) red_corner (lent_image two) new r
      → decoded_number r ≡ 0
  -- It answers one fixed colour, and none can stand for all of these texels.
  pub texel-varies : (v : ℕ) → TexelRead (beside2 two mode order) red_corner (half two) 2 (Ok v)
      → TexelRead (beside2 two mode order) red_corner (3 * half two) 2 (Ok v) → ⊥
  pub row-varies : (v : ℕ) (new : List ℕ) → RowDecoded (beside2 two mode order) red_corner 2 (lent_row two) new (Ok tt)
      → OneColour (2 * block_width two) v new → ⊥
  pub block-varies : (v : ℕ) (new : List ℕ) → BlockDecoded (beside2 two mode order) red_corner (lent_image two) new (Ok tt)
      → OneColour (8 * block_width two) v new → ⊥
  -- It writes nothing and reports success.
  pub row_written : RowDecoded (beside2 two mode order) red_corner 2 (lent_row two) (lent_row two) (Ok tt) → ⊥
  pub block_written : BlockDecoded (beside2 two mode order) red_corner (lent_image two) (lent_image two) (Ok tt) → ⊥
  -- It decodes the first block and repeats it, or the first row of blocks, or the first row.
  pub row-goes-on : (new : List ℕ) → RowDecoded (beside2 two mode order) red_corner 2 (lent_row two) new (Ok tt) → FirstBlockAgain two 1 new → ⊥
  pub block-goes-on : (new : List ℕ) → BlockDecoded (beside2 two mode order) red_corner (lent_image two) new (Ok tt) → FirstBlockAgain two 4 new → ⊥
  pub block-goes-down : (new : List ℕ) → BlockDecoded (below2 two mode order) red_corner (lent_image two) new (Ok tt) → FirstBlocksAgain two new → ⊥
  pub rows-differ : (new : List ℕ) → BlockDecoded (below2 two mode order) red_corner (lent_image two) new (Ok tt) → FirstRowAgain two new → ⊥
