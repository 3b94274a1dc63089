-- That document 01 and Khronos describe one texel. Assumes nothing: these are definitions.
use Rattle.std.specs.Prelude.{◌≡◌, Bool, List, ℕ, ◌+◌, ◌*◌, ◌/◌, ◌≤◌, ◌<◌, max, get_or}
use Rattle.grid.specs.Grid.{half, block_width, blocks, Power, block_address}
use Rattle.word.specs.Word.{word_of}
use Rattle.pixel.specs.Pixel.{Pixel}
use Rattle.pixel.specs.declared.ChannelOrder.{ChannelOrder}
use Rattle.pixel.specs.declared.ChannelOrder.TheVariants.{BlueFirst, RedFirst}
use Rattle.texel.specs.Texel.{texel_at, texel_word}
use Rattle.khronos.specs.Khronos.{Color, word64, khronos_texel}
use Rattle.khronos.specs.Storage.{blocks_along, stored_along, word_index, khronos_picture}

-- Document 01's texel has the channels of Khronos's.
pub record Same (p : Pixel) (c : Color) : Type 0 where
  pub red : p.r ≡ c.red
  pub green : p.g ≡ c.green
  pub blue : p.b ≡ c.blue
  pub alpha : p.a ≡ c.alpha

-- Each entry of a list is a byte.
abbrev pub Bytes : List ℕ → Type 0
Bytes d = (k : ℕ) → get_or d k 0 < 256

-- A grid of gx by gy blocks: `bytes` gives the bytes of the block in a column and a row. Each texel is the one that Khronos describes.
abbrev pub Agrees : Bool → ℕ → ℕ → (ℕ → ℕ → List ℕ) → Type 0
Agrees two gx gy bytes =
    (x y : ℕ) → x / block_width two < gx → y / 4 < gy
    → Same (texel_at (half two) gx gy (λ i j. word_of two (bytes i j)) x y) (khronos_texel two gx gy (λ i j. word64 (bytes i j)) x y)

-- The blocks that Khronos counts along a side of so many texels, and where it stores a word of a grid, are document 01's; those that the
-- extension stores are document 02's.
pub record SameStorage : Type 0 where
  pub count : (size side : ℕ) → 0 < size → blocks_along size side ≡ blocks size side
  pub stored : (size side : ℕ) → 0 < size → stored_along size side ≡ max 2 (blocks size side)
  pub order : (gx gy x y : ℕ) → Power gx → Power gy → gx ≤ 65536 → gy ≤ 65536 → x < gx → y < gy → word_index gx gy x y ≡ block_address gx gy x y

-- The word of a colour of 8 bits a channel: blue lowest, or red; alpha on top.
abbrev pub word32 : ChannelOrder → Color → ℕ
word32 BlueFirst c = c.blue + 256 * c.green + 65536 * c.red + 16777216 * c.alpha
word32 RedFirst c = c.red + 256 * c.green + 65536 * c.blue + 16777216 * c.alpha

-- In either order, each word of a picture whose grid has powers of two as its sides, up to 65,536, is that of the colour that Khronos describes.
abbrev pub PictureAgrees : ChannelOrder → Bool → (gx gy : ℕ) → List ℕ → Type 0
PictureAgrees order two gx gy d =
    Power gx → Power gy → gx ≤ 65536 → gy ≤ 65536 → (x y : ℕ) → x / block_width two < gx → y / 4 < gy
    → texel_word order two gx gy d x y ≡ word32 order (khronos_picture two gx gy d x y)
