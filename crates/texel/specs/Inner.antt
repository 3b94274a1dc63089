-- What the functions of this crate say of nine words in an array, and what they ask of one another.
-- Assumes nothing: these are definitions.
use Rattle.std.specs.Prelude.{Bool, cond, List, [], ℕ, ◌+◌, ◌*◌, ◌/◌, ◌%◌, ◌≤◌, ◌<◌, get_or}
use Rattle.facts.specs.Sum.{sum}
use Rattle.facts.specs.Tab.{tab}
use Rattle.grid.specs.declared.Grid.{Grid}
use Rattle.grid.specs.Grid.{block_width}
use Rattle.pixel.specs.Pixel.{Pixel}
use Rattle.word.specs.Word.{Small}
use Rattle.word.specs.declared.Fill.TheVariants.{Nothing}
use Rattle.word.specs.declared.PVRTCTexelColor.{PVRTCTexelColor}
use Rattle.word.specs.declared.PVRTCTexelInfo.{PVRTCTexelInfo}
use Rattle.texel.specs.declared.PVRTCTexelColorInt.{PVRTCTexelColorInt}
use Rattle.texel.specs.Texel.{Words, factor, scale_color, scale_alpha, about, words_of}

-- What an index past the end of nine words would read.
abbrev pub blank : PVRTCTexelInfo
blank =
    record {
      a = record { r = 0; g = 0; b = 0; a = 0 };
      b = record { r = 0; g = 0; b = 0; a = 0 };
      weight = [];
      punch_through_flag = 0;
      fill = Nothing;
    }

-- Nine words in row order, by column and row.
abbrev pub nine_of : List PVRTCTexelInfo → Words
nine_of nine i j = get_or nine (3 * j + i) blank

-- Colour B of a word, or A.
abbrev pub side : (second : Bool) → PVRTCTexelInfo → PVRTCTexelColor
side second w = cond second w.b w.a

-- The four sums of colour A, or B, over the first n of nine words.
unfoldable pub sums_to : ℕ → Words → (second : Bool) → ℕ → ℕ → ℕ → PVRTCTexelColorInt
sums_to h nine second px py n =
    record {
      r = sum (λ k. (side second (nine (k % 3) (k / 3))).r * factor h px py k) n;
      g = sum (λ k. (side second (nine (k % 3) (k / 3))).g * factor h px py k) n;
      b = sum (λ k. (side second (nine (k % 3) (k / 3))).b * factor h px py k) n;
      a = sum (λ k. (side second (nine (k % 3) (k / 3))).a * factor h px py k) n;
    }

-- A colour's four sums, brought to 8 bits.
abbrev pub to_bytes : ℕ → PVRTCTexelColorInt → PVRTCTexelColorInt
to_bytes h s = record { r = scale_color h s.r; g = scale_color h s.g; b = scale_color h s.b; a = scale_alpha h s.a }

-- The same four numbers as a pixel.
abbrev pub pixel : PVRTCTexelColorInt → Pixel
pixel s = record { r = s.r; g = s.g; b = s.b; a = s.a }

-- The words about block (bx, by) of a grid that stand in a run of bytes, by column and row of the three by three.
abbrev pub words_about : Grid → List ℕ → ℕ → ℕ → Words
words_about g d bx by = about g.across g.down (words_of g.is2bpp g.across g.down d) bx by

-- The nine of them, in row order.
unfoldable pub nine_about : Grid → List ℕ → ℕ → ℕ → List PVRTCTexelInfo
nine_about g d bx by = tab (λ k. words_about g d bx by (k % 3) (k / 3)) 9

-- A place of a block.
pub record Place (two : Bool) (px py : ℕ) : Type 0 where
  pub across : px < block_width two
  pub down : py < 4

-- A place of the three by three blocks, counted from the corner of the first.
pub record InNine (two : Bool) (x y : ℕ) : Type 0 where
  pub across : x < 3 * block_width two
  pub down : y < 12

-- Nine words whose colours have five bits, alpha four.
abbrev pub SmallColors : List PVRTCTexelInfo → Type 0
SmallColors nine = (second : Bool) (k : ℕ) → k < 9 → Small (side second (get_or nine k blank))

-- Nine words that were read: their colours have five bits, alpha four, and no weight is above 8.
pub record Read (two : Bool) (nine : List PVRTCTexelInfo) : Type 0 where
  pub small : SmallColors nine
  pub low : (k i : ℕ) → k < 9 → i < 4 * block_width two → get_or (get_or nine k blank).weight i 0 ≤ 8

-- Four sums that are bounded by t blocks' worth of the largest channel.
pub record Low (t : ℕ) (s : PVRTCTexelColorInt) : Type 0 where
  pub r : s.r ≤ 31 * t
  pub g : s.g ≤ 31 * t
  pub b : s.b ≤ 31 * t
  pub a : s.a ≤ 15 * t
