-- How large a texel is: each channel lies between A's and B's and has 8 bits, and the word has 32. Assumes nothing.
use Rattle.std.proofs.Common.{◌≡◌, refl, Bool, true, false, cond, List, ℕ, ◌+◌, ◌-◌, ◌*◌, ◌/◌, ◌%◌, ◌^◌, ◌≤◌, ◌<◌, min, max, mod-lt, arith, drop}
use Rattle.grid.specs.Grid.{half, block_width, block_address, beside}
use Rattle.pixel.proofs.Exchanged.{exchanging}
use Rattle.pixel.specs.Pixel.{Pixel, packed, EightBits}
use Rattle.pixel.specs.declared.ChannelOrder.{ChannelOrder}
use Rattle.word.specs.Word.{word_of}
use Rattle.word.proofs.Bounds.{weight-le}
use Rattle.word.specs.declared.Fill.{Fill}
use Rattle.word.specs.declared.Fill.TheVariants.{Nothing, Around, AboveBelow, LeftRight}
use Rattle.texel.specs.Texel.{Words, nine_sum, blended, blend, near, filled, rule_at, punched, mixed, texel_in, texel_at}
use Rattle.texel.specs.Between.{Between, color_in, LiesBetween}
use Rattle.texel.specs.Inner.{sums_to, to_bytes, pixel}
use Rattle.texel.proofs.Blend.{between, bytes, blend-bytes}
use Rattle.texel.proofs.Nine.{small-side}
use Rattle.texel.proofs.Shares.{half-low}
use Rattle.texel.proofs.Sums.{sums-low}

-- a blend lies between what is blended
pub blend-between : (s t : Pixel) (w : ℕ) (hole : Bool) → w ≤ 8 → Between s t (blend s t w hole) hole
blend-between s t w hole l =
    record {
      r = between s.r t.r w l;
      g = between s.g t.g w l;
      b = between s.b t.b w l;
      a = alpha hole;
    }
  where
    alpha : (hole : Bool)
        → cond hole (cond hole 0 (blended s.a t.a w) ≡ 0)
        ((min s.a t.a ≤ cond hole 0 (blended s.a t.a w)) × (cond hole 0 (blended s.a t.a w) ≤ max s.a t.a))
    alpha true = refl
    alpha false = between s.a t.a w l

-- words that were read, by column and row
module _ (two : Bool) (of : ℕ → ℕ → List ℕ) where
  abbrev pub words : Words
  words i j = word_of two (of i j)

  place-lt : (two : Bool) (x y : ℕ) → block_width two * (y % 4) + x % block_width two < cond two 32 16
  place-lt true x y = omega arith
  place-lt false x y = omega arith

  near_le : (x y : ℕ) → near (half two) words x y ≤ 8
  unfolding near
  near_le x y = weight-le two (of (x / block_width two) (y / 4)) (block_width two * (y % 4) + x % block_width two) (place-lt two x y)

  -- no weight is above 8, filled or not
  pub filled-le : (f : Fill) (x y : ℕ) → filled (half two) f words x y ≤ 8
  unfolding filled
  filled-le Nothing x y = near_le x y
  filled-le Around x y = omega (arith, near_le x (y - 1), near_le x (y + 1), near_le (x - 1) y, near_le (x + 1) y)
  filled-le AboveBelow x y = omega (arith, near_le x (y - 1), near_le x (y + 1))
  filled-le LeftRight x y = omega (arith, near_le (x - 1) y, near_le (x + 1) y)

  module _ (px py : ℕ) (lx : px < block_width two) (ly : py < 4) where
    -- colours A and B have 8 bits a channel
    color-bytes : (second : Bool) → EightBits (pixel (to_bytes (half two) (sums_to (half two) words second px py 9)))
    color-bytes second =
        bytes two (sums_to (half two) words second px py 9)
        (sums-low (half two) words second px py lx ly 9 (omega arith) (λ k l. small-side two second (of (k % 3) (k / 3))))

    -- each channel of a texel lies between A's and B's, alpha where it is not punched through
    pub texel-between :
        Between (color_in (half two) words false px py) (color_in (half two) words true px py) (texel_in (half two) words px py)
        (punched (half two) (words 1 1) px py)
    unfolding texel_in mixed
    texel-between =
        let rule = rule_at (words 1 1) px py in
        blend-between (color_in (half two) words false px py) (color_in (half two) words true px py)
        (filled (half two) rule words (px + block_width two) (py + 4)) (punched (half two) (words 1 1) px py)
        (filled-le rule (px + block_width two) (py + 4))

    -- and has 8 bits
    texel-in-bytes : EightBits (texel_in (half two) words px py)
    unfolding texel_in mixed sums_to nine_sum
    texel-in-bytes =
        blend-bytes (to_bytes (half two) (sums_to (half two) words false px py 9)) (to_bytes (half two) (sums_to (half two) words true px py 9))
        (filled (half two) (rule_at (words 1 1) px py) words (px + block_width two) (py + 4)) (punched (half two) (words 1 1) px py)
        (filled-le (rule_at (words 1 1) px py) (px + block_width two) (py + 4)) (color-bytes false) (color-bytes true)

-- every texel of a grid of words has 8 bits a channel
pub texel-bytes : (two : Bool) (gx gy : ℕ) (of : ℕ → ℕ → List ℕ) (x y : ℕ) → EightBits (texel_at (half two) gx gy (words two of) x y)
unfolding texel_at
texel-bytes two gx gy of x y =
    texel-in-bytes two (λ i j. of (beside gx (x / block_width two) i) (beside gy (y / 4) j)) (x % block_width two) (y % 4)
    (mod-lt x (omega (arith, half-low two))) (omega arith)

-- so its word is below 2 ^ 32, in either order
pub texel-below : (order : ChannelOrder) (two : Bool) (gx gy : ℕ) (of : ℕ → ℕ → List ℕ) (x y : ℕ)
    → packed order (texel_at (half two) gx gy (words two of) x y) < 2 ^ 32
texel-below order two gx gy of x y = exchanging.fits order (texel_at (half two) gx gy (words two of) x y) (texel-bytes two gx gy of x y)

-- and it lies between its colours A and B
pub lies-between : (two : Bool) (gx gy : ℕ) (d : List ℕ) (x y : ℕ) → LiesBetween two gx gy d x y
unfolding texel_at
lies-between two gx gy d x y =
    texel-between two (λ i j. drop (8 * block_address gx gy (beside gx (x / block_width two) i) (beside gy (y / 4) j)) d) (x % block_width two) (y % 4)
    (mod-lt x (omega (arith, half-low two))) (omega arith)
