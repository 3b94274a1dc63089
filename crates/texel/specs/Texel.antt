-- One texel of a picture, as document 01 says it ("One texel"), at both depths: h is half the width of a block, 2 at 4bpp and 4 at
-- 2bpp, so a block is 2h texels across and 4 down. Assumes nothing: these are definitions.
use Rattle.std.specs.Prelude.{Bool, cond, List, ℕ, zero, suc, ◌+◌, ◌-◌, ◌*◌, ◌/◌, ◌%◌, eqb, get_or, drop}
use Rattle.facts.specs.Bits.{is_set}
use Rattle.facts.specs.Sum.{sum}
use Rattle.grid.specs.declared.Grid.{Grid}
use Rattle.grid.specs.Grid.{half, block_address, beside}
use Rattle.pixel.specs.Pixel.{Pixel, packed}
use Rattle.pixel.specs.declared.ChannelOrder.{ChannelOrder}
use Rattle.word.specs.Word.{word_of}
use Rattle.word.specs.declared.Fill.{Fill}
use Rattle.word.specs.declared.Fill.TheVariants.{Nothing, Around, AboveBelow, LeftRight}
use Rattle.word.specs.declared.PVRTCTexelColor.{PVRTCTexelColor}
use Rattle.word.specs.declared.PVRTCTexelInfo.{PVRTCTexelInfo}

-- The shares of the (previous, own, next) = (0, 1, 2) block at the place p of a block of 2h. At h = 2 and h = 4 these are the rows
-- of document 01's tables.
unfoldable pub share : ℕ → ℕ → ℕ → ℕ
share h p zero = h - p
share h p (suc zero) = 2 * h - (h - p) - (p - h)
share h p (suc (suc k)) = p - h

-- Words by their column and row: of a whole grid, or of the three by three about a block.
abbrev pub Words : Type 0
Words = ℕ → ℕ → PVRTCTexelInfo

-- The product of shares that block k of nine, in row order, has at the place (px, py) of the middle one.
abbrev pub factor : ℕ → ℕ → ℕ → ℕ → ℕ
factor h px py k = share h px (k % 3) * share 2 py (k / 3)

-- The sum of the nine blocks' channel c times the product of shares.
unfoldable pub nine_sum : ℕ → (ℕ → ℕ → ℕ) → ℕ → ℕ → ℕ
nine_sum h c px py = sum (λ k. c (k % 3) (k / 3) * factor h px py k) 9

-- A colour's sum as 8 bits: s/2 + s/64 at 4bpp, s/4 + s/128 at 2bpp.
unfoldable pub scale_color : ℕ → ℕ → ℕ
scale_color h s = s / h + s / (32 * h)

-- Alpha's sum as 8 bits: s + s/16 at 4bpp, s/2 + s/32 at 2bpp.
unfoldable pub scale_alpha : ℕ → ℕ → ℕ
scale_alpha h s = 2 * s / h + s / (8 * h)

-- The blend of a and b at the weight w, which is 0 to 8.
unfoldable pub blended : ℕ → ℕ → ℕ → ℕ
blended a b w = (a * (8 - w) + b * w) / 8

-- The four channels, each summed by `total` and brought to 8 bits.
abbrev pub scaled : ℕ → ((PVRTCTexelColor → ℕ) → ℕ) → Pixel
scaled h total =
    record {
      r = scale_color h (total (λ c. c.r));
      g = scale_color h (total (λ c. c.g));
      b = scale_color h (total (λ c. c.b));
      a = scale_alpha h (total (λ c. c.a));
    }

-- Two pixels blended, with alpha 0 where the texel is punched through.
abbrev pub blend : Pixel → Pixel → ℕ → Bool → Pixel
blend s t w punched =
    record {
      r = blended s.r t.r w;
      g = blended s.g t.g w;
      b = blended s.b t.b w;
      a = cond punched 0 (blended s.a t.a w);
    }

-- The weight stored at (x, y) of three by three blocks, counted from the corner of the first.
unfoldable pub near : ℕ → Words → ℕ → ℕ → ℕ
near h nine x y = get_or (nine (x / (2 * h)) (y / 4)).weight (2 * h * (y % 4) + x % (2 * h)) 0

-- Filling: a mean of two weights, or of four.
abbrev pub mean2 : ℕ → ℕ → ℕ
mean2 a b = (a + b + 1) / 2

abbrev pub mean4 : ℕ → ℕ → ℕ → ℕ → ℕ
mean4 a b c d = (a + b + c + d + 2) / 4

-- The weight that a fill rule gives at (x, y). A neighbour over the edge is that block's own stored weight.
unfoldable pub filled : ℕ → Fill → Words → ℕ → ℕ → ℕ
filled h Nothing nine x y = near h nine x y
filled h Around nine x y =
    mean4 (near h nine x (y - 1)) (near h nine x (y + 1)) (near h nine (x - 1) y) (near h nine (x + 1) y)
filled h AboveBelow nine x y = mean2 (near h nine x (y - 1)) (near h nine x (y + 1))
filled h LeftRight nine x y = mean2 (near h nine (x - 1) y) (near h nine (x + 1) y)

-- The fill rule at the place (px, py) of a block: a texel with x + y even holds a weight of its own.
abbrev pub rule_at : PVRTCTexelInfo → ℕ → ℕ → Fill
rule_at own px py = cond (eqb ((px + py) % 2) 0) Nothing own.fill

-- Whether the texel at (px, py) of a block is punched through.
abbrev pub punched : ℕ → PVRTCTexelInfo → ℕ → ℕ → Bool
punched h own px py = is_set own.punch_through_flag (2 * h * py + px)

-- A texel from its own word, a way to sum a channel of the words, and a way to weigh by a fill rule.
unfoldable pub mixed : ℕ → PVRTCTexelInfo → ((PVRTCTexelInfo → ℕ) → ℕ) → (Fill → ℕ) → ℕ → ℕ → Pixel
mixed h own total weigh px py =
    blend (scaled h (λ c. total (λ w. c w.a))) (scaled h (λ c. total (λ w. c w.b))) (weigh (rule_at own px py)) (punched h own px py)

-- The texel at the place (px, py) of the middle block of nine.
unfoldable pub texel_in : ℕ → Words → ℕ → ℕ → Pixel
texel_in h nine px py =
    mixed h (nine 1 1) (λ c. nine_sum h (λ i j. c (nine i j)) px py) (λ rule. filled h rule nine (px + 2 * h) (py + 4)) px py

-- The nine words about block (bx, by) of a grid of gx by gy, round the torus.
abbrev pub about : ℕ → ℕ → Words → ℕ → ℕ → Words
about gx gy look bx by i j = look (beside gx bx i) (beside gy by j)

-- The texel (x, y) of a grid of gx by gy words.
unfoldable pub texel_at : ℕ → ℕ → ℕ → Words → ℕ → ℕ → Pixel
texel_at h gx gy look x y = texel_in h (about gx gy look (x / (2 * h)) (y / 4)) (x % (2 * h)) (y % 4)

-- The words of a run of bytes: block (bx, by) has the eight bytes at eight times its address.
abbrev pub words_of : Bool → ℕ → ℕ → List ℕ → Words
words_of two gx gy d bx by = word_of two (drop (8 * block_address gx gy bx by) d)

-- The texel (x, y), as a word in an order of channels, of a run of bytes whose grid is gx by gy.
abbrev pub texel_word : ChannelOrder → Bool → ℕ → ℕ → List ℕ → ℕ → ℕ → ℕ
texel_word order two gx gy d x y = packed order (texel_at (half two) gx gy (words_of two gx gy d) x y)

-- The same of a grid by its description.
abbrev pub grid_texel : ChannelOrder → Grid → List ℕ → ℕ → ℕ → ℕ
grid_texel order g d x y = texel_word order g.is2bpp g.across g.down d x y
