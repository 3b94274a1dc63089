-- A place of the three by three blocks about a texel, as a place round the picture. Assumes nothing.
use Rattle.std.proofs.Common.{◌≡◌, ℕ, ◌+◌, ◌-◌, ◌*◌, ◌/◌, ◌%◌, ◌<◌, sym, ap, ◌∙◌, mod-lt, mul-pos, div-add-mod', arith}
use native.Mathlib.Nat.{add-mul-mod_self_right}
use Rattle.facts.proofs.Numbers.{split}
use Rattle.grid.specs.Grid.{beside}
use Rattle.grid.proofs.Torus.{round}

-- a place u of the three blocks about that of the texel z is the place `at` round a side of g blocks
pub record Round (h g z u at : ℕ) : Type 0 where
  pub block : at % (g * (2 * h)) / (2 * h) ≡ beside g (z / (2 * h)) (u / (2 * h))
  pub place : at % (g * (2 * h)) % (2 * h) ≡ u % (2 * h)

module _ (h g z : ℕ) (lh : 0 < h) (lg : 0 < g) where
  -- `at` is the place u less a block, and k whole sides less than one side more
  moved : (u at k : ℕ) → at + 2 * h + k * (g * (2 * h)) ≡ z / (2 * h) * (2 * h) + u + g * (2 * h) → Round h g z u at
  unfolding beside
  moved u at k s =
      let q : ℕ = z / (2 * h) in
      let m : ℕ = g - 1 in
      let e : g ≡ m + 1 = omega arith in
      let n : ℕ = at + k * (g * (2 * h)) in
      let same : n % (g * (2 * h)) ≡ at % (g * (2 * h)) = add-mul-mod_self_right at k (g * (2 * h)) in
      let cut : (n / (2 * h) ≡ q + m + u / (2 * h)) × (n % (2 * h) ≡ u % (2 * h)) =
      split (2 * h) n (q + m + u / (2 * h)) (u % (2 * h)) (omega (arith, div-add-mod' u (2 * h), ap (λ (i : ℕ). i * (2 * h)) e)) (mod-lt u (omega arith)) in
      let turn : (n % (g * (2 * h)) / (2 * h) ≡ n / (2 * h) % g) × (n % (g * (2 * h)) % (2 * h) ≡ n % (2 * h)) = round (2 * h) g n (omega arith) lg in
      record {
        block = ap (λ (i : ℕ). i / (2 * h)) (sym same) ∙ turn.0 ∙ ap (λ (i : ℕ). i % g) (omega arith);
        place = ap (λ (i : ℕ). i % (2 * h)) (sym same) ∙ turn.1 ∙ cut.1;
      }

  -- the texel itself, the one before it and the one after it
  pub here : Round h g z (z % (2 * h) + 2 * h) z
  here = moved (z % (2 * h) + 2 * h) z 1 (omega (arith, div-add-mod' z (2 * h)))

  pub back : Round h g z (z % (2 * h) + 2 * h - 1) (z + g * (2 * h) - 1)
  back = moved (z % (2 * h) + 2 * h - 1) (z + g * (2 * h) - 1) 0 (omega (arith, div-add-mod' z (2 * h), mul-pos lg lh))

  pub on : Round h g z (z % (2 * h) + 2 * h + 1) (z + 1)
  on = moved (z % (2 * h) + 2 * h + 1) (z + 1) 1 (omega (arith, div-add-mod' z (2 * h)))
