-- A column of three words, summed downwards. Assumes nothing: these are definitions.
-- `d` is the picture's data, and a word is told by its address, which counts words.
use Rattle.std.specs.Prelude.{List, ℕ, ◌*◌, ◌≤◌, ◌<◌, get_or, drop}
use Rattle.facts.specs.Tab.{tab}
use Rattle.pixel.specs.declared.ChannelOrder.{ChannelOrder}
use Rattle.word.specs.Word.{color_a, color_b, blue_a, blue_b, color_of}
use Rattle.lanes.specs.declared.Column.{Column}
use Rattle.lanes.specs.declared.Sums.{Sums}
use Rattle.lanes.specs.Lanes.{color_lanes, shared}

-- The bytes from word z on.
abbrev pub word_at : List ℕ → ℕ → List ℕ
word_at d z = drop (8 * z) d

-- Colour A of word z as lanes, in an order of channels.
unfoldable pub lanes_a : ChannelOrder → List ℕ → ℕ → ℕ
lanes_a order d z = color_lanes order (color_of (color_a (word_at d z)) (blue_a (color_a (word_at d z))))

-- Colour B of word z.
unfoldable pub lanes_b : ChannelOrder → List ℕ → ℕ → ℕ
lanes_b order d z = color_lanes order (color_of (color_b (word_at d z)) (blue_b (color_b (word_at d z))))

-- Rows 0 to 3 of a block, of the words at the addresses above it, its own and below it, by their shares.
unfoldable pub column_of : ChannelOrder → List ℕ → (above own below : ℕ) → Column
column_of order d above own below =
    record {
      a = tab (λ y. shared 2 y (lanes_a order d above) (lanes_a order d own) (lanes_a order d below)) 4;
      b = tab (λ y. shared 2 y (lanes_b order d above) (lanes_b order d own) (lanes_b order d below)) 4;
    }

-- Row y of three columns, in one colour.
abbrev pub sums_at : (left own right : List ℕ) → ℕ → Sums
sums_at left own right y = record { left = get_or left y 0; own = get_or own y 0; right = get_or right y 0 }

-- The sum at place x of a row of 2h texels, by their shares there.
abbrev pub across : ℕ → Sums → ℕ → ℕ
across h s x = shared h x s.left s.own s.right

-- Eight times such a number fits a machine word with room to bring it to 8 bits.
abbrev pub most : ℕ
most = 36028797018963968

-- A column whose eight numbers are so small.
pub record SmallColumn (k : Column) : Type 0 where
  pub a : (y : ℕ) → y < 4 → get_or k.a y 0 ≤ most
  pub b : (y : ℕ) → y < 4 → get_or k.b y 0 ≤ most

-- A row of three columns whose three numbers are so small.
pub record SmallSums (s : Sums) : Type 0 where
  pub left : s.left ≤ most
  pub own : s.own ≤ most
  pub right : s.right ≤ most
