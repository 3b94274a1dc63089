-- Every texel of document 01 is the one that Khronos describes. Assumes nothing.
use Rattle.std.proofs.Common.{◌≡◌, ℕ, ◌+◌, ◌*◌, ◌/◌, ◌%◌, ◌<◌, Bool, List, drop, sym, ap, ◌∙◌, arith, get_or-drop}
use Rattle.grid.specs.Grid.{half, block_width, beside}
use Rattle.grid.proofs.Powers.{power-above}
use Rattle.grid.proofs.Torus.{beside-own, beside-below}
use Rattle.word.specs.Word.{word_of}
use Rattle.word.specs.declared.PVRTCTexelColor.{PVRTCTexelColor}
use Rattle.word.specs.declared.PVRTCTexelInfo.{PVRTCTexelInfo}
use Rattle.pixel.specs.Pixel.{Pixel, packed}
use Rattle.pixel.specs.declared.ChannelOrder.{ChannelOrder}
use Rattle.pixel.specs.declared.ChannelOrder.TheVariants.{BlueFirst, RedFirst}
use Rattle.texel.specs.Texel.{Words, nine_sum, blended, filled, rule_at, punched, about, mixed, texel_in, texel_at, words_of}
use Rattle.texel.proofs.Same.{look-same}
use Rattle.texel.proofs.Shares.{half-low}
use Rattle.khronos.specs.Agrees.{Bytes, Same, Agrees, word32, PictureAgrees}
use Rattle.khronos.specs.Khronos.{Color, word64, image_a, image_b, bilinear, modulation, punch_through, modulated, khronos_texel}
use Rattle.khronos.specs.Storage.{word_index, word_bytes_at}
use Rattle.khronos.proofs.Images.{image-a, image-b}
use Rattle.khronos.proofs.Interpolation.{around}
use Rattle.khronos.proofs.Modulation.{positive, same-weight}
use Rattle.khronos.proofs.Punched.{is-punched}
use Rattle.khronos.proofs.Storage.{same-storage}
use Rattle.khronos.proofs.Widening.{is-eight, is-eight-alpha}

module _ (two : Bool) (gx gy : ℕ) (bytes : ℕ → ℕ → List ℕ) (l : (i j : ℕ) → Bytes (bytes i j)) (x y : ℕ) (lx : x / block_width two < gx) (ly : y / 4 < gy) where
  -- the nine words about the texel, of which the middle one is its own, and the words of 64 bits
  abbrev nine : Words
  nine = about gx gy (λ i j. word_of two (bytes i j)) (x / (2 * half two)) (y / 4)

  abbrev words : ℕ → ℕ → ℕ
  words i j = word64 (bytes i j)

  abbrev own : List ℕ
  own = bytes (x / (2 * half two)) (y / 4)

  middle : nine 1 1 ≡ word_of two own
  middle = rw (beside-own gx (x / (2 * half two)) lx, beside-own gy (y / 4) ly)

  -- a channel made large
  large : (f : PVRTCTexelInfo → ℕ) (g : ℕ → ℕ) → ((d : List ℕ) → Bytes d → f (word_of two d) ≡ g (word64 d))
      → nine_sum (half two) (λ i j. f (nine i j)) (x % (2 * half two)) (y % 4) ≡ bilinear (half two) gx gy (λ i j. g (words i j)) x y
  unfolding bilinear
  large f g e =
      let same : (i j : ℕ) → f (word_of two (bytes i j)) ≡ g (words i j) = λ i j. e (bytes i j) (l i j) in
      around (half two) gx gy x y (positive two) (omega arith) (omega arith) (λ i j. f (word_of two (bytes i j))) ∙ simp same

  -- how much of each image is taken
  weight : filled (half two) (rule_at (nine 1 1) (x % (2 * half two)) (y % 4)) nine (x % (2 * half two) + 2 * half two) (y % 4 + 4)
      ≡ modulation two gx gy words (word64 own) x y
  weight = rw middle (same-weight two gx gy (omega arith) (omega arith) bytes l x y own (l (x / (2 * half two)) (y / 4)))

  punch : punched (half two) (nine 1 1) (x % (2 * half two)) (y % 4) ≡ punch_through two (word64 own) x y
  punch = rw middle (is-punched two own (l (x / (2 * half two)) (y / 4)) x y)

  -- a channel of both images, brought to 8 bits by s or t, and mixed
  channel : {s t : ℕ → ℕ} → ((n : ℕ) → s n ≡ t n) → (f : PVRTCTexelColor → ℕ) (g : Color → ℕ)
      → ((d : List ℕ) → Bytes d → f (word_of two d).a ≡ g (image_a (word64 d)))
      → ((d : List ℕ) → Bytes d → f (word_of two d).b ≡ g (image_b (word64 d)))
      → blended (s (nine_sum (half two) (λ i j. f (nine i j).a) (x % (2 * half two)) (y % 4)))
      (s (nine_sum (half two) (λ i j. f (nine i j).b) (x % (2 * half two)) (y % 4)))
      (filled (half two) (rule_at (nine 1 1) (x % (2 * half two)) (y % 4)) nine (x % (2 * half two) + 2 * half two) (y % 4 + 4))
      ≡ modulated (t (bilinear (half two) gx gy (λ i j. g (image_a (words i j))) x y)) (t (bilinear (half two) gx gy (λ i j. g (image_b (words i j))) x y))
      (modulation two gx gy words (word64 own) x y)
  unfolding blended
  channel eight f g a b =
      rw (large (λ w. f w.a) (λ n. g (image_a n)) a, large (λ w. f w.b) (λ n. g (image_b n)) b, weight)
      (simp eight)

  same : Same (texel_at (half two) gx gy (λ i j. word_of two (bytes i j)) x y) (khronos_texel two gx gy words x y)
  unfolding texel_at texel_in mixed khronos_texel
  same =
      record {
        red = channel (is-eight two) (λ c. c.r) (λ c. c.red) (λ d h. (image-a two d h).red) (λ d h. (image-b two d h).red);
        green = channel (is-eight two) (λ c. c.g) (λ c. c.green) (λ d h. (image-a two d h).green) (λ d h. (image-b two d h).green);
        blue = channel (is-eight two) (λ c. c.b) (λ c. c.blue) (λ d h. (image-a two d h).blue) (λ d h. (image-b two d h).blue);
        alpha =
            rw (punch, channel (is-eight-alpha two) (λ c. c.a) (λ c. c.alpha) (λ d h. (image-a two d h).alpha) (λ d h. (image-b two d h).alpha));
      }

-- each texel of any blocks of bytes is the one that Khronos describes
pub agrees : (two : Bool) (gx gy : ℕ) (bytes : ℕ → ℕ → List ℕ) → ((i j : ℕ) → Bytes (bytes i j)) → Agrees two gx gy bytes
agrees = same

-- the words of one texel, in either order
words_same : (order : ChannelOrder) {p : Pixel} {c : Color} → Same p c → packed order p ≡ word32 order c
words_same BlueFirst t = rw (t.red, t.green, t.blue, t.alpha)
words_same RedFirst t = rw (t.red, t.green, t.blue, t.alpha)

-- so each word of a picture, whose words Khronos finds where document 01 does
pub is-khronos : (order : ChannelOrder) (two : Bool) (gx gy : ℕ) (d : List ℕ) → Bytes d → PictureAgrees order two gx gy d
is-khronos order two gx gy d l px py fx fy x y hx hy =
    ap (packed order) (look-same (half two) gx gy x y (half-low two) (words_of two gx gy d) (λ i j. word_of two (bytes i j)) (λ i j _ _. found i j))
    ∙ words_same order t
  where
    bytes : ℕ → ℕ → List ℕ
    bytes i j = word_bytes_at gx gy d i j

    -- the words about the texel
    found : (i j : ℕ) → let bx = beside gx (x / block_width two) i in let by = beside gy (y / 4) j in words_of two gx gy d bx by ≡ word_of two (bytes bx by)
    found i j =
        let bx : ℕ = beside gx (x / block_width two) i in
        let by : ℕ = beside gy (y / 4) j in
        let across : bx < gx = beside-below gx (x / block_width two) i (power-above gx px) in
        let down : by < gy = beside-below gy (y / 4) j (power-above gy py) in
        ap (λ (z : ℕ). word_of two (drop (8 * z) d)) (sym (same-storage.order gx gy bx by px py fx fy across down))

    t : Same (texel_at (half two) gx gy (λ i j. word_of two (bytes i j)) x y) (khronos_texel two gx gy (λ i j. word64 (bytes i j)) x y)
    t = agrees two gx gy bytes (λ i j k. rw (get_or-drop (8 * word_index gx gy i j) d k 0) (l (8 * word_index gx gy i j + k))) x y hx hy
