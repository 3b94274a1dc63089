-- One side of a picture, g blocks of 2h texels round a torus: which texels draw on a block. Assumes nothing.
use Rattle.std.proofs.Common.{◌≡◌, ℕ, zero, suc, ◌+◌, ◌-◌, ◌*◌, ◌/◌, ◌%◌, ◌<◌, ◌≤◌, sym, refl, ap, ◌∙◌, ⊎_elim, mul-le-mul_right, mod-lt, mod-eq_of_lt}
use Rattle.std.proofs.Common.{div-lt_iff_lt-mul, div-add-mod', arith}
use native.Mathlib.Nat.{mod-add-mod, add-mod_right}
use Rattle.facts.proofs.Lists.{Value}
use Rattle.facts.proofs.Numbers.{lt-or-le, split}
use Rattle.grid.specs.Grid.{beside}
use Rattle.grid.proofs.Torus.{beside-below}
use Rattle.texel.specs.Texel.{share}
use Rattle.texel.proofs.Same.{HasShare}
use Rattle.demands.specs.Damage.{first_touched, reach, touched}

-- from a neighbour, one comes back by the neighbour on the other side
back : (g c k : ℕ) → c < g → k < 3 → beside g (beside g c k) (2 - k) ≡ c
unfolding beside
back g c k l h =
    ap (λ (n : ℕ). n % g) (omega arith)
    ∙ mod-add-mod (c + k + g - 1) g (2 - k + g - 1)
    ∙ ap (λ (n : ℕ). n % g) (omega arith)
    ∙ add-mod_right (c + g) g ∙ add-mod_right c g ∙ mod-eq_of_lt l

-- two places less than a side apart stay different round it
apart : (side a t t' : ℕ) → t < t' → t' < side → (a + t) % side ≡ (a + t') % side → ⊥
apart side a t t' less low e =
    let q : ℕ = (a + t) / side in
    let q' : ℕ = (a + t') / side in
    let whole : q * side + (a + t) % side ≡ a + t = div-add-mod' (a + t) side in
    let whole' : q' * side + (a + t') % side ≡ a + t' = div-add-mod' (a + t') side in
    ⊎_elim
    (λ l. omega (arith, mul-le-mul_right {m = suc q} {n = q'} side l))
    (λ l. omega (arith, mul-le-mul_right {m = q'} {n = q} side l))
    (lt-or-le q q')

module _ (h g : ℕ) (lh : 0 < h) (lg : 0 < g) where
  -- the t-th texel that block c touches stands h + 1 + t past the start of the block before c
  rounded : (c t : ℕ) → touched h g c t ≡ beside g c ((h + 1 + t) / (2 * h)) * (2 * h) + (h + 1 + t) % (2 * h)
  unfolding touched beside
  rounded c t =
      let side : ℕ = g * (2 * h) in
      let u : ℕ = h + 1 + t in
      let k : ℕ = u / (2 * h) in
      let r : ℕ = u % (2 * h) in
      let n : ℕ = g - 1 in
      let one_more : g ≡ n + 1 = omega arith in
      let b : ℕ = (c + k + g - 1) % g in
      let m : ℕ = (c + k + g - 1) / g in
      let lr : r < 2 * h = mod-lt u (omega arith) in
      let lb : b < g = mod-lt (c + k + g - 1) lg in
      let round : m * g + b ≡ c + k + n = omega (arith, div-add-mod' (c + k + g - 1) g) in
      mod-add-mod _ side t
      ∙ (split side _ m (b * (2 * h) + r)
      (omega (arith, div-add-mod' u (2 * h), ap (λ (i : ℕ). i * (2 * h)) round, ap (λ (i : ℕ). i * (2 * h)) one_more))
      (omega (arith, mul-le-mul_right {m = suc b} {n = g} (2 * h) lb))).1

  -- a texel that draws on a block is among those that the block touches
  pub found : (x i : ℕ) → x < g * (2 * h) → HasShare h (x % (2 * h)) i → Value (touched h g (beside g (x / (2 * h)) i)) (reach h) x
  unfolding share
  found x i lx s =
      let p : ℕ = x % (2 * h) in
      let q : ℕ = x / (2 * h) in
      let lq : q < g = (div-lt_iff_lt-mul {k = 2 * h} {x = x} {y = g} (omega arith)).1 lx in
      let lp : p < 2 * h = mod-lt x (omega arith) in
      let u : ℕ = (2 - i) * (2 * h) + p in
      let range : (h < u) × (u < 5 * h) = bound i p lp s in
      let e : h + 1 + (u - (h + 1)) ≡ u = omega arith in
      let cut : (u / (2 * h) ≡ 2 - i) × (u % (2 * h) ≡ p) = split (2 * h) u (2 - i) p refl lp in
      record {
        k = u - (h + 1);
        below = omega arith;
        is = sym (rounded (beside g q i) (u - (h + 1)) ∙ rw (e, cut.0, cut.1, back g q i lq s.0) (div-add-mod' x (2 * h)));
      }
    where
      bound : (i p : ℕ) → p < 2 * h → HasShare h p i → (h < (2 - i) * (2 * h) + p) × ((2 - i) * (2 * h) + p < 5 * h)
      bound zero p lp s = omega arith
      bound (suc zero) p lp s = omega arith
      bound (suc (suc zero)) p lp s = omega arith
      bound (suc (suc (suc i))) p lp s = omega arith

  -- the texel x is of the side, and draws on block c
  pub record Draws (c x : ℕ) : Type 0 where
    pub i : ℕ
    pub below : x < g * (2 * h)
    pub has : HasShare h (x % (2 * h)) i
    pub is : beside g (x / (2 * h)) i ≡ c

  -- so does each that c touches
  pub draws : (c t : ℕ) → c < g → t < reach h → Draws c (touched h g c t)
  unfolding share
  draws c t lc lt =
      let u : ℕ = h + 1 + t in
      let k : ℕ = u / (2 * h) in
      let r : ℕ = u % (2 * h) in
      let whole : k * (2 * h) + r ≡ u = div-add-mod' u (2 * h) in
      let lr : r < 2 * h = mod-lt u (omega arith) in
      let lk : k < 3 = (div-lt_iff_lt-mul {k = 2 * h} {x = u} {y = 3} (omega arith)).1 (omega arith) in
      let b : ℕ = beside g c k in
      let lb : b < g = beside-below g c k lg in
      let cut : ((b * (2 * h) + r) / (2 * h) ≡ b) × ((b * (2 * h) + r) % (2 * h) ≡ r) = split (2 * h) (b * (2 * h) + r) b r refl lr in
      rw (rounded c t)
      (record {
        i = 2 - k;
        below = omega (arith, mul-le-mul_right {m = suc b} {n = g} (2 * h) lb);
        has = rw cut.1 (above k r lk lr (omega arith) (omega arith));
        is = rw cut.0 (back g c k lc lk);
      })
    where
      above : (k r : ℕ) → k < 3 → r < 2 * h → h < k * (2 * h) + r → k * (2 * h) + r < 5 * h → HasShare h r (2 - k)
      above zero r lk lr a b = omega arith
      above (suc zero) r lk lr a b = omega arith
      above (suc (suc zero)) r lk lr a b = omega arith
      above (suc (suc (suc k))) r lk lr a b = omega arith

  -- with two blocks or more, none is touched twice
  pub once : (c t t' : ℕ) → 2 ≤ g → t < reach h → t' < reach h → touched h g c t ≡ touched h g c t' → t ≡ t'
  unfolding touched
  once c t t' two l l' e =
      let long : 2 * (2 * h) ≤ g * (2 * h) = mul-le-mul_right (2 * h) two in
      ⊎_elim
      (λ a. absurd (apart (g * (2 * h)) (first_touched h g c) t t' a (omega arith) e))
      (λ b. ⊎_elim (λ a. absurd (apart (g * (2 * h)) (first_touched h g c) t' t a (omega arith) (sym e))) (λ d. omega arith) (lt-or-le t' t))
      (lt-or-le t t')
