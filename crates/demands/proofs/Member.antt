-- What is in a footprint: the blocks of the nine that have a share at the texel, across and down. Assumes nothing.
use Rattle.std.proofs.Common.{◌≡◌, ℕ, zero, suc, ◌+◌, ◌-◌, ◌*◌, ◌/◌, ◌%◌, ◌<◌, ◌≤◌, min, Bool, List, length, refl, ap, ⊎_elim, mod-lt, mul-le-mul, mul-pos}
use Rattle.std.proofs.Common.{arith, get_or-drop}
use mathlib.Core.List.{Memᴰ}
use Rattle.facts.specs.Sum.{sum}
use Rattle.facts.proofs.Lists.{not-empty}
use Rattle.facts.proofs.Numbers.{lt-or-le}
use Rattle.grid.specs.Grid.{half, block_width, Power, block_address, beside}
use Rattle.grid.proofs.Onto.{bijective}
use Rattle.grid.proofs.Powers.{power-above}
use Rattle.grid.proofs.Torus.{beside-below}
use Rattle.word.proofs.Same.{word_same}
use Rattle.pixel.specs.Pixel.{packed}
use Rattle.pixel.specs.declared.ChannelOrder.{ChannelOrder}
use Rattle.texel.specs.Texel.{share, factor, words_of, texel_word}
use Rattle.texel.proofs.Same.{HasShare, own-share, look-same}
use Rattle.texel.proofs.Shares.{half-low}
use Rattle.demands.specs.Footprint.{part_of, wrapped, footprint, Rising, SameBlock}
use Rattle.demands.proofs.Gathered.{gathered-in, gathered-out, gathered-rising, gathered-size}

-- block z, by its column and row of the nine
pub record Drawn (two : Bool) (gx gy x y z : ℕ) : Type 0 where
  pub i : ℕ
  pub j : ℕ
  pub across : HasShare (half two) (x % block_width two) i
  pub down : HasShare 2 (y % 4) j
  pub is : z ≡ block_address gx gy (beside gx (x / block_width two) i) (beside gy (y / 4) j)

-- both factors of a product above 0 are above 0
left-above : (m n : ℕ) → 0 < m * n → 0 < m
left-above zero n h = omega arith
left-above (suc m) n h = omega arith

-- the previous or the next block has no share, so two of the three have one at most, and of the nine two by two
two-of-three : (h p : ℕ) → min 1 (share h p 0) + min 1 (share h p 1) + min 1 (share h p 2) ≤ 2
unfolding share
two-of-three h p =
    ⊎_elim
    (λ less. let none : p - h ≡ 0 = omega arith in rw none (omega arith))
    (λ more. let none : h - p ≡ 0 = omega arith in rw none (omega arith))
    (lt-or-le p h)

two-by-two : (a b : ℕ → ℕ) → a 0 + a 1 + a 2 ≤ 2 → b 0 + b 1 + b 2 ≤ 2 → sum (λ k. a (k % 3) * b (k / 3)) 9 ≤ 4
unfolding sum
two-by-two a b l m = omega (arith, mul-le-mul l m)

module _ (two : Bool) (gx gy x y : ℕ) where
  pub in-footprint : (z : ℕ) → Drawn two gx gy x y z → Memᴰ z (footprint two gx gy x y)
  unfolding footprint
  in-footprint z d =
      let k : ℕ = 3 * d.j + d.i in
      let i : k % 3 ≡ d.i = omega arith in
      let j : k / 3 ≡ d.j = omega arith in
      let above : 0 < factor (half two) (x % block_width two) (y % 4) k = rw (i, j) (mul-pos d.across.1 d.down.1) in
      gathered-in (part_of two x y) (wrapped two gx gy x y) 9 z (record { k = k; below = omega arith; above = omega arith; is = rw (i, j) d.is })

  pub of-footprint : (z : ℕ) → Memᴰ z (footprint two gx gy x y) → Drawn two gx gy x y z
  unfolding footprint
  of-footprint z m =
      let kept = gathered-out (part_of two x y) (wrapped two gx gy x y) 9 z m in
      let i : ℕ = kept.k % 3 in
      let j : ℕ = kept.k / 3 in
      let u : ℕ = share (half two) (x % block_width two) i in
      let v : ℕ = share 2 (y % 4) j in
      let above : 0 < u * v = omega arith in
      record { i = i; j = j; across = (omega arith, left-above u v above); down = (omega arith, left-above v u (omega arith)); is = kept.is }

  pub footprint-some : 1 ≤ length (footprint two gx gy x y)
  footprint-some =
      not-empty (in-footprint (block_address gx gy (beside gx (x / block_width two) 1) (beside gy (y / 4) 1))
      (record {
        i = 1;
        j = 1;
        across = own-share (half two) (x % block_width two) (mod-lt x (omega (arith, half-low two)));
        down = own-share 2 (y % 4) (omega arith);
        is = refl;
      }))

  pub footprint-few : length (footprint two gx gy x y) ≤ 4
  unfolding footprint
  footprint-few =
      let a : ℕ → ℕ = share (half two) (x % block_width two) in
      let b : ℕ → ℕ = share 2 (y % 4) in
      let counts : (k : ℕ) → 0 < part_of two x y k → 1 ≤ min 1 (a (k % 3)) * min 1 (b (k / 3)) =
      λ k above. mul-pos
      (omega (arith, left-above (a (k % 3)) (b (k / 3)) (omega arith)))
      (omega (arith, left-above (b (k / 3)) (a (k % 3)) (omega arith))) in
      omega (
        arith,
        gathered-size (part_of two x y) (wrapped two gx gy x y) (λ k. min 1 (a (k % 3)) * min 1 (b (k / 3))) counts 9,
        two-by-two (λ i. min 1 (a i)) (λ j. min 1 (b j)) (two-of-three (half two) (x % block_width two)) (two-of-three 2 (y % 4)),
      )

  pub footprint-rising : Rising (footprint two gx gy x y)
  unfolding footprint
  footprint-rising = gathered-rising (part_of two x y) (wrapped two gx gy x y) 9

  pub footprint-within : Power gx → Power gy → (z : ℕ) → Memᴰ z (footprint two gx gy x y) → z < gx * gy
  footprint-within px py z m =
      let d = of-footprint z m in
      rw d.is
      ((bijective gx gy px py).within (beside gx (x / block_width two) d.i) (beside gy (y / 4) d.j)
      (beside-below gx (x / block_width two) d.i (power-above gx px)) (beside-below gy (y / 4) d.j (power-above gy py)))

  -- runs that agree on the footprint give the same texel
  pub footprint-enough : (order : ChannelOrder) (d d' : List ℕ) → ((z : ℕ) → Memᴰ z (footprint two gx gy x y) → SameBlock d d' z)
      → texel_word order two gx gy d x y ≡ texel_word order two gx gy d' x y
  footprint-enough order d d' same =
      ap (packed order) (look-same (half two) gx gy x y (half-low two) (words_of two gx gy d) (words_of two gx gy d') (λ i j a b.
      let z : ℕ = block_address gx gy (beside gx (x / block_width two) i) (beside gy (y / 4) j) in
      word_same two _ _ (λ k l. rw (get_or-drop, get_or-drop)
      (same z (in-footprint z (record { i = i; j = j; across = a; down = b; is = refl })) k l))))
