-- One texel as the Khronos description of PVRTC gives it: two small images, A and B, of a texel for each block, which are made as
-- large as the picture, and a modulation image that says at each texel how much of each is taken. All three wrap round.
-- Nothing here is shared with document 01's definitions, so that both can be compared. Assumes nothing: these are definitions.
use Rattle.std.specs.Prelude.{Bool, true, false, cond, ◌&&◌, ◌||◌, List, ℕ, zero, suc, ◌+◌, ◌-◌, ◌*◌, ◌/◌, ◌%◌, ◌^◌, eqb, get_or}

-- A block is a 64-bit word, little-endian.
unfoldable pub word64 : List ℕ → ℕ
word64 d =
    get_or d 0 0
    + 2 ^ 8 * get_or d 1 0
    + 2 ^ 16 * get_or d 2 0
    + 2 ^ 24 * get_or d 3 0
    + 2 ^ 32 * get_or d 4 0
    + 2 ^ 40 * get_or d 5 0
    + 2 ^ 48 * get_or d 6 0
    + 2 ^ 56 * get_or d 7 0

-- n bits of a word from bit `at` up.
abbrev pub field : ℕ → ℕ → ℕ → ℕ
field w at n = w / 2 ^ at % 2 ^ n

-- Bit `at` of a word is set.
abbrev pub flag : ℕ → ℕ → Bool
flag w at = eqb (field w at 1) 1

-- The layout of a word, from the low end: 32 bits of modulation, the modulation mode, colour A of 14 bits and its opacity flag,
-- colour B of 15 bits and its opacity flag.
abbrev pub modulation_bits : ℕ → ℕ
modulation_bits w = field w 0 32

abbrev pub mode_flag : ℕ → Bool
mode_flag w = flag w 32

abbrev pub opaque_a : ℕ → Bool
opaque_a w = flag w 47

abbrev pub opaque_b : ℕ → Bool
opaque_b w = flag w 63

-- Channels of four or three bits become five by repeating their top bits below; alpha of three becomes four by a zero.
abbrev pub four→five : ℕ → ℕ
four→five v = 2 * v + v / 8

abbrev pub three→five : ℕ → ℕ
three→five v = 4 * v + v / 2

abbrev pub three→four : ℕ → ℕ
three→four v = 2 * v

-- A colour of an image: red, green and blue of five bits, alpha of four.
pub record Color : Type 0 where
  pub red : ℕ
  pub green : ℕ
  pub blue : ℕ
  pub alpha : ℕ

-- Colour A: opaque it is RGB 5:5:4, translucent ARGB 3:4:4:3.
unfoldable pub image_a : ℕ → Color
image_a w =
    cond (opaque_a w)
    (record { red = field w 42 5; green = field w 37 5; blue = four→five (field w 33 4); alpha = 15 })
    (record {
      red = four→five (field w 40 4);
      green = four→five (field w 36 4);
      blue = three→five (field w 33 3);
      alpha = three→four (field w 44 3);
    })

-- Colour B: opaque it is RGB 5:5:5, translucent ARGB 3:4:4:4.
unfoldable pub image_b : ℕ → Color
image_b w =
    cond (opaque_b w)
    (record { red = field w 58 5; green = field w 53 5; blue = field w 48 5; alpha = 15 })
    (record {
      red = four→five (field w 56 4);
      green = four→five (field w 52 4);
      blue = four→five (field w 48 4);
      alpha = three→four (field w 60 3);
    })

-- Half the texels across a block; `two` is true at 2 bits a texel. A block is twice as many across, and 4 down.
abbrev pub half_block : Bool → ℕ
half_block two = cond two 4 2

-- Along a side of g blocks of 2h texels, a block's colour sits h texels into it. How far texel x is past the first block's: the whole
-- side is added so that nothing is below 0.
abbrev pub past : ℕ → ℕ → ℕ → ℕ
past h g x = x + g * (2 * h) - h

-- The two nearest blocks by that, and how far the texel is from the first of them, out of 2h.
unfoldable pub first : ℕ → ℕ → ℕ → ℕ
first h g x = past h g x / (2 * h) % g

unfoldable pub second : ℕ → ℕ → ℕ → ℕ
second h g x = (past h g x / (2 * h) + 1) % g

unfoldable pub apart : ℕ → ℕ → ℕ → ℕ
apart h g x = past h g x % (2 * h)

-- Between the values a and b, a distance u out of n from a: n times as large.
abbrev pub linear : ℕ → ℕ → ℕ → ℕ → ℕ
linear n u a b = a * (n - u) + b * u

-- An image of the blocks made as large as the picture by bilinear interpolation: 8h times as large.
unfoldable pub bilinear : ℕ → ℕ → ℕ → (ℕ → ℕ → ℕ) → ℕ → ℕ → ℕ
bilinear h gx gy image x y =
    linear (2 * h) (apart h gx x)
    (linear 4 (apart 2 gy y) (image (first h gx x) (first 2 gy y)) (image (first h gx x) (second 2 gy y)))
    (linear 4 (apart 2 gy y) (image (second h gx x) (first 2 gy y)) (image (second h gx x) (second 2 gy y)))

-- To 8 bits, from n times five bits and from n times four: the bits behind the point go on as far as they are wanted, and the top
-- bits are repeated below.
unfoldable pub five→eight : ℕ → ℕ → ℕ
five→eight n s = 8 * s / n + s / n / 4

unfoldable pub four→eight : ℕ → ℕ → ℕ
four→eight n s = 16 * s / n + s / n

-- What a two-bit modulation code means, in eighths of B.
unfoldable pub eighths : ℕ → ℕ
eighths zero = 0
eighths (suc zero) = 3
eighths (suc (suc zero)) = 5
eighths (suc (suc (suc c))) = 8

-- And at 4 bits a texel with the mode flag set: codes 1 and 2 are both half, code 2 with alpha 0.
unfoldable pub halves : ℕ → ℕ
halves zero = 0
halves (suc zero) = 4
halves (suc (suc zero)) = 4
halves (suc (suc (suc c))) = 8

-- The modulation that a word stores for its texel (px, py).
-- 4 bits a texel: sixteen codes in row order, read by the mode flag.
abbrev pub stored4bpp : ℕ → ℕ → ℕ → ℕ
stored4bpp w px py =
    cond (mode_flag w) (halves (field (modulation_bits w) (2 * (4 * py + px)) 2)) (eighths (field (modulation_bits w) (2 * (4 * py + px)) 2))

-- 2 bits a texel, mode flag set: a chequerboard. Every second texel stores a code, in row order; two of these codes give their low
-- bit to say how the others are filled, so of them the high bit alone counts.
abbrev pub high_bit : ℕ → ℕ
high_bit c = 8 * (c / 2)

abbrev pub lends_bit : ℕ → ℕ → ℕ → Bool
lends_bit w px py = eqb px 0 && eqb py 0 || eqb px 4 && eqb py 2 && flag w 0

abbrev pub chequered : ℕ → ℕ → ℕ → ℕ
chequered w px py =
    cond (lends_bit w px py) (high_bit (field (modulation_bits w) (2 * (4 * py + px / 2)) 2)) (eighths (field (modulation_bits w) (2 * (4 * py + px / 2)) 2))

-- 2 bits a texel: with the mode flag clear a bit for each texel, all or nothing.
abbrev pub stored2bpp : ℕ → ℕ → ℕ → ℕ
stored2bpp w px py =
    cond (mode_flag w) (cond (eqb ((px + py) % 2) 0) (chequered w px py) 0) (8 * field (modulation_bits w) (8 * py + px) 1)

-- The modulation stored for the texel (x, y) of a grid of words, round the picture.
unfoldable pub stored : Bool → ℕ → ℕ → (ℕ → ℕ → ℕ) → ℕ → ℕ → ℕ
stored two gx gy words x y =
    let bw = 2 * half_block two in
    let x' = x % (gx * bw) in
    let y' = y % (gy * 4) in
    let w = words (x' / bw) (y' / 4) in
    cond two (stored2bpp w (x' % bw) (y' % 4)) (stored4bpp w (x' % bw) (y' % 4))

-- The other texels of a chequerboard: the mean of the four neighbours where bit 0 is clear; where it is set, of those above and below
-- if bit 20 is set, else of those to the left and right. One texel back is a whole side less one on.
unfoldable pub interpolated : Bool → ℕ → ℕ → (ℕ → ℕ → ℕ) → ℕ → ℕ → ℕ → ℕ
interpolated two gx gy words w x y =
    let above = stored two gx gy words x (y + gy * 4 - 1) in
    let below = stored two gx gy words x (y + 1) in
    let left = stored two gx gy words (x + gx * (2 * half_block two) - 1) y in
    let right = stored two gx gy words (x + 1) y in
    cond (flag w 0) (cond (flag w 20) ((above + below + 1) / 2) ((left + right + 1) / 2)) ((above + below + left + right + 2) / 4)

-- The modulation at the texel (x, y), whose own word is w.
unfoldable pub modulation : Bool → ℕ → ℕ → (ℕ → ℕ → ℕ) → ℕ → ℕ → ℕ → ℕ
modulation two gx gy words w x y =
    cond (two && mode_flag w && eqb ((x % (2 * half_block two) + y % 4) % 2) 1) (interpolated two gx gy words w x y) (stored two gx gy words x y)

-- Whether the texel is punched through: 4 bits a texel, mode flag set, code 2.
unfoldable pub punch_through : Bool → ℕ → ℕ → ℕ → Bool
punch_through true w x y = false
punch_through false w x y = mode_flag w && eqb (field (modulation_bits w) (2 * (4 * (y % 4) + x % 4)) 2) 2

-- A and B mixed: m eighths of B.
abbrev pub modulated : ℕ → ℕ → ℕ → ℕ
modulated a b m = (a * (8 - m) + b * m) / 8

-- The texel (x, y) of a grid of gx by gy words: each channel of A and B made large, widened to 8 bits and mixed.
unfoldable pub khronos_texel : Bool → ℕ → ℕ → (ℕ → ℕ → ℕ) → ℕ → ℕ → Color
khronos_texel two gx gy words x y =
    let h = half_block two in
    let n = 8 * h in
    let w = words (x / (2 * h)) (y / 4) in
    let m = modulation two gx gy words w x y in
    let a : (Color → ℕ) → ℕ = λ channel. bilinear h gx gy (λ i j. channel (image_a (words i j))) x y in
    let b : (Color → ℕ) → ℕ = λ channel. bilinear h gx gy (λ i j. channel (image_b (words i j))) x y in
    record {
      red = modulated (five→eight n (a (λ c. c.red))) (five→eight n (b (λ c. c.red))) m;
      green = modulated (five→eight n (a (λ c. c.green))) (five→eight n (b (λ c. c.green))) m;
      blue = modulated (five→eight n (a (λ c. c.blue))) (five→eight n (b (λ c. c.blue))) m;
      alpha = cond (punch_through two w x y) 0 (modulated (four→eight n (a (λ c. c.alpha))) (four→eight n (b (λ c. c.alpha))) m);
    }
