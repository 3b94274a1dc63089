-- No footprint is too large: two runs tell a block at each texel that draws on it. All their bytes are 0, but for the eight of that block in
-- one run, which are 15: both its colours have red 31, so red shows in the texel, whatever the weight. Assumes nothing.
use Rattle.std.proofs.Common.{◌≡◌, ℕ, ◌+◌, ◌*◌, ◌/◌, ◌%◌, ◌<◌, ◌≤◌, Bool, true, false, cond, eqb, List, [], get_or, drop, sym, refl, ap, ◌∙◌, ⊎_elim, mod-lt}
use Rattle.std.proofs.Common.{mul-pos, le-div_iff_mul-le, arith, eqb→eq, get_or-drop, eq-eqb, ne_eqb}
use lib.ListN.{get_or-eq_default}
use Rattle.facts.specs.Bits.{flags}
use Rattle.facts.specs.Sum.{sum}
use Rattle.facts.specs.Tab.{tab}
use Rattle.facts.proofs.Finite.{below₂}
use Rattle.facts.proofs.Lists.{choice}
use Rattle.facts.proofs.Numbers.{lt-or-le}
use Rattle.facts.proofs.Sum.{term-le}
use Rattle.facts.proofs.Tab.{length-tab, get_or-tab}
use Rattle.grid.specs.Grid.{half, block_width, block_address, beside}
use Rattle.word.specs.Word.{weight4bpp, punch4bpp, weight2bpp, fill2bpp, word_of}
use Rattle.word.specs.declared.PVRTCTexelColor.{PVRTCTexelColor}
use Rattle.word.proofs.Bounds.{color-a, color-b}
use Rattle.word.proofs.Same.{word_same}
use Rattle.texel.specs.Inner.{side}
use Rattle.pixel.specs.Pixel.{packed}
use Rattle.pixel.specs.declared.ChannelOrder.{ChannelOrder}
use Rattle.pixel.specs.declared.ChannelOrder.TheVariants.{BlueFirst, RedFirst}
use Rattle.texel.specs.Texel.{share, factor, nine_sum, scale_color, scale_alpha, blended, near, filled, mixed, texel_in, texel_at, words_of, texel_word}
use Rattle.texel.proofs.Range.{words, texel-between}
use Rattle.texel.proofs.Same.{HasShare, look-same}
use Rattle.texel.proofs.Shares.{half-low, half_high}
use Rattle.demands.specs.Local.{Told}
use Rattle.demands.proofs.Member.{Drawn, of-footprint}

-- byte k where block z has v in each byte, and every other byte is 0; and the run of these
abbrev byte : ℕ → ℕ → ℕ → ℕ
byte v z k = cond (eqb (k / 8) z) v 0

abbrev one_block : ℕ → ℕ → ℕ → List ℕ
one_block v n z = tab (byte v z) (8 * n)

module _ (v n z : ℕ) (lz : z < n) where
  one-block-at : (k : ℕ) → get_or (one_block v n z) k 0 ≡ byte v z k
  one-block-at k =
      ⊎_elim
      (get_or-tab (byte v z) (8 * n) k 0)
      (λ l. get_or-eq_default (one_block v n z) 0 (omega (arith, length-tab (byte v z) (8 * n))) ∙ rw (ne_eqb (k / 8) z (omega arith)))
      (lt-or-le k (8 * n))

  one-block-low : v < 256 → (k : ℕ) → get_or (one_block v n z) k 0 < 256
  one-block-low l k = rw (one-block-at k) (choice (λ b. b < 256) (eqb (k / 8) z) {a = v} {b = 0} (λ _. l) (λ _. omega arith))

  one-block-own : (k : ℕ) → k < 8 → get_or (one_block v n z) (8 * z + k) 0 ≡ v
  one-block-own k l = one-block-at (8 * z + k) ∙ rw (eq-eqb ((8 * z + k) / 8) z (omega arith))

  one-block-other : (b k : ℕ) → (b ≡ z → ⊥) → k < 8 → get_or (one_block v n z) (8 * b + k) 0 ≡ 0
  one-block-other b k o l = one-block-at (8 * b + k) ∙ rw (ne_eqb ((8 * b + k) / 8) z (λ e. o (omega arith)))

-- a texel whose words are all of bytes 0 is 0
black : (order : ChannelOrder) (two : Bool) (px py : ℕ) → px < block_width two → py < 4 → packed order (texel_in (half two) (λ i j. word_of two []) px py) ≡ 0
unfolding sum tab flags weight4bpp punch4bpp weight2bpp fill2bpp word_of share nine_sum scale_color scale_alpha blended near filled mixed texel_in
black BlueFirst true px py lx ly = eqb→eq _ 0 (below₂ (λ px py. eqb (packed BlueFirst (texel_in 4 (λ i j. word_of true []) px py)) 0) 8 4 tt px py lx ly)
black BlueFirst false px py lx ly = eqb→eq _ 0 (below₂ (λ px py. eqb (packed BlueFirst (texel_in 2 (λ i j. word_of false []) px py)) 0) 4 4 tt px py lx ly)
black RedFirst true px py lx ly = eqb→eq _ 0 (below₂ (λ px py. eqb (packed RedFirst (texel_in 4 (λ i j. word_of true []) px py)) 0) 8 4 tt px py lx ly)
black RedFirst false px py lx ly = eqb→eq _ 0 (below₂ (λ px py. eqb (packed RedFirst (texel_in 2 (λ i j. word_of false []) px py)) 0) 4 4 tt px py lx ly)

-- so is every texel of a run of bytes 0
dark : (order : ChannelOrder) (two : Bool) (gx gy n z x y : ℕ) → z < n → texel_word order two gx gy (one_block 0 n z) x y ≡ 0
unfolding texel_at
dark order two gx gy n z x y lz =
    ap (packed order) (look-same (half two) gx gy x y (half-low two) (words_of two gx gy (one_block 0 n z)) (λ i j. word_of two []) (λ i j _ _. word i j))
    ∙ black order two (x % block_width two) (y % 4) (mod-lt x (omega (arith, half-low two))) (omega arith)
  where
    zero-byte : (k : ℕ) → get_or (one_block 0 n z) k 0 ≡ 0
    zero-byte k = one-block-at 0 n z lz k ∙ choice (λ b. b ≡ 0) (eqb (k / 8) z) (λ _. refl) (λ _. refl)

    word : (i j : ℕ) → word_of two (drop (8 * block_address gx gy (beside gx (x / block_width two) i) (beside gy (y / 4) j)) (one_block 0 n z)) ≡ word_of two []
    word i j =
        word_same two _ [] (λ k l.
        let at : ℕ = 8 * block_address gx gy (beside gx (x / block_width two) i) (beside gy (y / 4) j) in
        get_or-drop at (one_block 0 n z) k 0 ∙ zero-byte (at + k))

-- bytes 15 make both colours red
red-of : (two second : Bool) (d : List ℕ) → ((k : ℕ) → k < 8 → get_or d k 0 ≡ 15) → (side second (word_of two d)).r ≡ 31
red-of two true d b = ap (λ (c : PVRTCTexelColor). c.r) (color-b two d) ∙ rw (b 6 (omega arith), b 7 (omega arith))
red-of two false d b = ap (λ (c : PVRTCTexelColor). c.r) (color-a two d) ∙ rw (b 4 (omega arith), b 5 (omega arith))

-- one such block that has a share makes the texel red, whatever the other eight are
module _ (two : Bool) (of : ℕ → ℕ → List ℕ) (px py i j : ℕ) (lx : px < block_width two) (ly : py < 4)
    (across : HasShare (half two) px i) (down : HasShare 2 py j) (b : (k : ℕ) → k < 8 → get_or (of i j) k 0 ≡ 15) where
  -- the sum of red over colour A, or B
  abbrev reds : (second : Bool) → ℕ
  reds second = nine_sum (half two) (λ i j. (side second (words two of i j)).r) px py

  sum-above : (second : Bool) → 31 ≤ reds second
  unfolding nine_sum
  sum-above second =
      let k : ℕ = 3 * j + i in
      let ei : k % 3 ≡ i = omega arith in
      let ej : k / 3 ≡ j = omega arith in
      let f : ℕ → ℕ = λ k. (side second (words two of (k % 3) (k / 3))).r * factor (half two) px py k in
      let term : f k ≡ 31 * (share (half two) px i * share 2 py j) = rw (ei, ej, red-of two second (of i j) b) in
      omega (arith, term-le f 9 k (omega arith), mul-pos across.1 down.1)

  scaled-above : (second : Bool) → 0 < scale_color (half two) (reds second)
  unfolding scale_color
  scaled-above second =
      let s : ℕ = reds second in
      omega (arith, (le-div_iff_mul-le {k = half two} {x = 1} {y = s} (omega (arith, half-low two))).1 (omega (arith, half_high two, sum-above second)))

  red : 0 < (texel_in (half two) (words two of) px py).r
  red = omega (arith, (texel-between two of px py lx ly).r.0, scaled-above false, scaled-above true)

  bright : (order : ChannelOrder) → 0 < packed order (texel_in (half two) (words two of) px py)
  bright BlueFirst = omega (arith, red)
  bright RedFirst = omega (arith, red)

-- two runs tell a block, at every texel that draws on it
pub told : (order : ChannelOrder) (two : Bool) (gx gy z : ℕ) → z < gx * gy → Told order two gx gy z
unfolding texel_at
told order two gx gy z lz =
    record {
      one = one_block 15 n z;
      other = one_block 0 n z;
      one_size = length-tab (byte 15 z) (8 * n);
      other-size = length-tab (byte 0 z) (8 * n);
      one-bytes = one-block-low 15 n z lz (omega arith);
      other-bytes = one-block-low 0 n z lz (omega arith);
      alone = λ b _ o k l. one-block-other 15 n z lz b k o l ∙ sym (one-block-other 0 n z lz b k o l);
      differ = λ x y m e. omega (arith, lit x y (of-footprint two gx gy x y z m), dark order two gx gy n z x y lz);
    }
  where
    n : ℕ
    n = gx * gy

    of : ℕ → ℕ → ℕ → ℕ → List ℕ
    of x y i j = drop (8 * block_address gx gy (beside gx (x / block_width two) i) (beside gy (y / 4) j)) (one_block 15 n z)

    lit : (x y : ℕ) → Drawn two gx gy x y z → 0 < texel_word order two gx gy (one_block 15 n z) x y
    lit x y d =
        bright two (of x y) (x % block_width two) (y % 4) d.i d.j (mod-lt x (omega (arith, half-low two))) (omega arith) d.across d.down
        (λ k l. rw (← d.is, get_or-drop) (one-block-own 15 n z lz k l)) order
