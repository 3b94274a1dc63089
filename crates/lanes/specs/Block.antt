-- A block from the window of three columns, at either depth: `says` is what its modulation says of each texel. Assumes nothing: these are definitions.
-- h is half the width of a block, 2 at 4bpp and 4 at 2bpp.
use Rattle.std.specs.Prelude.{◌≡◌, Bool, cond, List, ℕ, ◌+◌, ◌<◌}
use Rattle.grid.specs.Grid.{half, block_width}
use Rattle.pixel.specs.declared.ChannelOrder.{ChannelOrder}
use Rattle.texel.specs.Texel.{Words, filled, rule_at, punched}
use Rattle.word.specs.Word.{word_of}
use Rattle.lanes.specs.declared.Addresses.{Addresses}
use Rattle.lanes.specs.declared.Block.{Block}
use Rattle.lanes.specs.declared.Column.{Column}
use Rattle.lanes.specs.declared.Meaning.{Meaning}
use Rattle.lanes.specs.declared.Sums.{Sums}
use Rattle.lanes.specs.Column.{word_at, column_of, sums_at, across}
use Rattle.lanes.specs.Lanes.{bytes, clear, texel_lanes}

-- Texel x of a row, from its sums in colour A and in colour B.
abbrev pub in_row : (h : ℕ) → (says : ℕ → Meaning) → (a b : Sums) → ℕ → ℕ
in_row h says a b x = texel_lanes h (across h a x) (across h b x) (says x).weight (says x).keep

-- Texel (x, y) of the block between two columns.
abbrev pub in_block : (h : ℕ) → (says : ℕ → ℕ → Meaning) → (left own right : Column) → ℕ → ℕ → ℕ
in_block h says left own right x y = in_row h (says y) (sums_at left.a own.a right.a y) (sums_at left.b own.b right.b y) x

-- The column of three words, and what is stored in its own one.
abbrev pub block_of : {M : Type 0} → (List ℕ → M) → ChannelOrder → List ℕ → Addresses → Block M
block_of stored order d at = record { at = at; column = column_of order d at.above at.own at.below; said = stored (word_at d at.own) }

-- `says` says of each texel of the middle one of nine words what the definition says: the weight of colour B, and whether it is punched through.
abbrev pub Said : (two : Bool) → (of : ℕ → ℕ → List ℕ) → (says : ℕ → ℕ → Meaning) → Type 0
Said two of says =
    let nine : Words = λ i j. word_of two (of i j) in
    (x y : ℕ) → x < block_width two → y < 4
    → ((says y x).weight ≡ filled (half two) (rule_at (nine 1 1) x y) nine (x + block_width two) (y + 4))
    × ((says y x).keep ≡ cond (punched (half two) (nine 1 1) x y) clear bytes)

-- Of nine words these are the middle column's.
pub record Middle (of : ℕ → ℕ → List ℕ) (d : List ℕ) (at : Addresses) : Type 0 where
  pub above : of 1 0 ≡ word_at d at.above
  pub own : of 1 1 ≡ word_at d at.own
  pub below : of 1 2 ≡ word_at d at.below
