-- A texel as four channels and as a word, as documents 01 ("One texel") and 02 (W6) say it. Assumes nothing: these are definitions.
use Rattle.std.specs.Prelude.{◌≡◌, ℕ, ◌+◌, ◌*◌, ◌/◌, ◌%◌, ◌<◌}
use Rattle.pixel.specs.declared.ChannelOrder.{ChannelOrder}
use Rattle.pixel.specs.declared.ChannelOrder.TheVariants.{BlueFirst, RedFirst}

-- A texel: four channels of 8 bits.
pub record Pixel : Type 0 where
  pub r : ℕ
  pub g : ℕ
  pub b : ℕ
  pub a : ℕ

-- Four bytes as a word, from the low end.
abbrev pub word : (first second third fourth : ℕ) → ℕ
word first second third fourth = first + 256 * second + 65536 * third + 16777216 * fourth

-- The word of a texel: blue, green, red, alpha from the low byte; or red, green, blue, alpha.
abbrev pub packed : ChannelOrder → Pixel → ℕ
packed BlueFirst t = word t.b t.g t.r t.a
packed RedFirst t = word t.r t.g t.b t.a

-- A word with its low and its third byte exchanged.
unfoldable pub exchanged : ℕ → ℕ
exchanged w = word (w / 65536 % 256) (w / 256 % 256) (w % 256) (w / 16777216)

-- The channels of a texel are bytes.
pub record EightBits (t : Pixel) : Type 0 where
  pub r : t.r < 256
  pub g : t.g < 256
  pub b : t.b < 256
  pub a : t.a < 256

-- What the order is to a texel's word.
pub record Exchanging : Type 0 where
  -- Each order's word is the other's with two bytes exchanged.
  pub red-first : (t : Pixel) → EightBits t → packed RedFirst t ≡ exchanged (packed BlueFirst t)
  pub blue-first : (t : Pixel) → EightBits t → packed BlueFirst t ≡ exchanged (packed RedFirst t)
  -- Exchanged twice, a word is as it was.
  pub twice : (w : ℕ) → exchanged (exchanged w) ≡ w
  -- In either order a texel's word has 32 bits.
  pub fits : (order : ChannelOrder) (t : Pixel) → EightBits t → packed order t < 4294967296
