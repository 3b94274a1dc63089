-- Demand 3: each texel depends on its footprint and on nothing else, and damage in a block stays near it.
-- Assumes nothing: these are definitions.
use Rattle.std.specs.Prelude.{◌≡◌, Bool, cond, ℕ, ◌*◌, ◌≤◌, ◌<◌, length, get_or}
use mathlib.Core.List.{List, Memᴰ}
use Rattle.grid.specs.Grid.{block_width, Power}
use Rattle.pixel.specs.declared.ChannelOrder.{ChannelOrder}
use Rattle.texel.specs.Texel.{texel_word}
use Rattle.demands.specs.Damage.{Spot, spot, damaged, Different}
use Rattle.demands.specs.Footprint.{footprint, Rising, SameBlock, SameOutside}

-- A grid of gx by gy blocks, powers of two, that covers a picture of w by h texels.
pub record Covers (two : Bool) (gx gy w h : ℕ) : Type 0 where
  pub power-across : Power gx
  pub power-down : Power gy
  pub across : w ≤ gx * block_width two
  pub down : h ≤ gy * 4

-- A picture that clips no block of a grid of gx by gy, two each way at least.
pub record Whole (two : Bool) (gx gy w h : ℕ) : Type 0 where
  pub two-across : 2 ≤ gx
  pub two_down : 2 ≤ gy
  pub across : w ≡ gx * block_width two
  pub down : h ≡ gy * 4

-- Block z can be told: two runs of the grid's length that differ in it alone, and whose texels differ wherever it is in the footprint.
pub record Told (order : ChannelOrder) (two : Bool) (gx gy z : ℕ) : Type 0 where
  pub one : List ℕ
  pub other : List ℕ
  pub one_size : length one ≡ 8 * (gx * gy)
  pub other-size : length other ≡ 8 * (gx * gy)
  pub one-bytes : (k : ℕ) → get_or one k 0 < 256
  pub other-bytes : (k : ℕ) → get_or other k 0 < 256
  pub alone : SameOutside (gx * gy) one other z
  pub differ : (x y : ℕ) → Memᴰ z (footprint two gx gy x y) → texel_word order two gx gy one x y ≡ texel_word order two gx gy other x y → ⊥

-- Demand 3 for a picture of w by h texels whose grid is gx by gy, in one order of channels for both runs.
pub record Local (order : ChannelOrder) (two : Bool) (gx gy w h : ℕ) : Type 0 where
  -- A footprint has one to four blocks of the grid, ascending, each once.
  pub some : (x y : ℕ) → 1 ≤ length (footprint two gx gy x y)
  pub few : (x y : ℕ) → length (footprint two gx gy x y) ≤ 4
  pub rising : (x y : ℕ) → Rising (footprint two gx gy x y)
  pub within : (x y z : ℕ) → Memᴰ z (footprint two gx gy x y) → z < gx * gy
  -- Two runs that agree on a texel's footprint give the same texel.
  pub enough : (x y : ℕ) (d d' : List ℕ) → ((z : ℕ) → Memᴰ z (footprint two gx gy x y) → SameBlock d d' z)
      → texel_word order two gx gy d x y ≡ texel_word order two gx gy d' x y
  -- For each block, two runs that differ in it alone give different texels wherever it is in the footprint.
  pub needed : (z : ℕ) → z < gx * gy → Told order two gx gy z
  -- Damage in block z changes no texel of the picture outside a rectangle of 49 texels at 4bpp, 105 at 2bpp.
  pub size : (z : ℕ) → length (damaged two gx gy z) ≡ cond two 105 49
  pub only : (z : ℕ) (d d' : List ℕ) → SameOutside (gx * gy) d d' z → (x y : ℕ) → x < w → y < h
      → (texel_word order two gx gy d x y ≡ texel_word order two gx gy d' x y → ⊥) → Memᴰ (spot x y) (damaged two gx gy z)
  -- Nor is z in the footprint of a texel outside it.
  pub listed : (x y z : ℕ) → x < w → y < h → Memᴰ z (footprint two gx gy x y) → Memᴰ (spot x y) (damaged two gx gy z)
  -- And it is in that of each place of it.
  pub drawn : (x y z : ℕ) → z < gx * gy → Memᴰ (spot x y) (damaged two gx gy z) → Memᴰ z (footprint two gx gy x y)
  -- In a whole picture the texels of the rectangle are all different, all of the picture, and z is in the footprint of each: so it is
  -- in the footprints of exactly 49 texels, or 105.
  pub once : Whole two gx gy w h → (z : ℕ) → Different (damaged two gx gy z)
  pub all : Whole two gx gy w h → (z : ℕ) → z < gx * gy → (p : Spot) → Memᴰ p (damaged two gx gy z)
      → (p.x < w) × (p.y < h) × Memᴰ z (footprint two gx gy p.x p.y)
