-- What a word's weights, filled, say at 2bpp is what the definition says. Assumes nothing.
use Rattle.std.proofs.Common.{◌≡◌, ℕ, zero, suc, ◌+◌, ◌-◌, ◌*◌, ◌/◌, ◌%◌, ◌^◌, ◌<◌, ◌≤◌, Bool, true, false, cond, not, ◌&&◌, eqb, List, get_or, refl, ap, ◌∙◌}
use Rattle.std.proofs.Common.{ap₂, zero-add, arith, eqb→eq}
use native.Mathlib.Nat.{zero-div}
use Rattle.facts.proofs.Finite.{below}
use Rattle.facts.proofs.Tab.{get_or-tab}
use Rattle.facts.specs.Bits.{is_set}
use Rattle.facts.specs.Tab.{tab}
use Rattle.texel.proofs.Range.{words, filled-le}
use Rattle.texel.specs.Texel.{Words, near, filled, rule_at, punched}
use Rattle.word.proofs.Bounds.{weights-2, never-punched}
use Rattle.word.specs.declared.Fill.TheVariants.{Nothing, Around, AboveBelow, LeftRight}
use Rattle.word.specs.Word.{modulation, mode, weight2bpp, fill2bpp, word_of}
use Rattle.lanes.specs.declared.FillRule.{FillRule}
use Rattle.lanes.specs.declared.Weights.{Weights}
use Rattle.lanes.specs.Block.{Said}
use Rattle.lanes.specs.Block2bpp.{in_bytes, weight_row, weight_rows, weight_meaning, fill_rule_of, odds, evens, filled_at, filled_rows}
use Rattle.lanes.specs.Lanes.{bytes, clear}
use Rattle.lanes.proofs.ByteLanes.{bytes_same, mask_of, fill_at, filled_is, byte_at}

-- a bit as a number
bit-cond : (n : ℕ) → n < 2 → n ≡ cond (eqb n 1) 1 0
bit-cond zero h = refl
bit-cond (suc zero) h = refl
bit-cond (suc (suc n)) h = absurd (omega arith)

-- how often the neighbours beside a texel count, and those above and below it, by the two bits
abbrev beside : Bool → Bool → ℕ
beside bit high = 1 + cond bit 1 0 - 2 * cond bit 1 0 * cond high 1 0

abbrev upright : Bool → Bool → ℕ
upright bit high = 1 - cond bit 1 0 + 2 * cond bit 1 0 * cond high 1 0

counts : (bit high : Bool) → beside bit high + upright bit high ≤ 2
counts true true = omega arith
counts true false = omega arith
counts false true = omega arith
counts false false = omega arith

-- the one sum gives what the rule gives
module _ (n : Words) (x y : ℕ) where
  abbrev sum_at : (bit high : Bool) → ℕ
  sum_at bit high =
      (beside bit high * (near 4 n (x - 1) y + near 4 n (x + 1) y) + upright bit high * (near 4 n x (y - 1) + near 4 n x (y + 1)) + 2) / 4

  by-rule : (one even bit high : Bool) → (one ≡ true → even ≡ false → near 4 n x y ≡ 0)
      → near 4 n x y + cond (one && not even) (sum_at bit high) 0
      ≡ filled 4 (cond even Nothing (cond one (cond bit (cond high AboveBelow LeftRight) Around) Nothing)) n x y
  unfolding filled
  by-rule true true bit high z = omega arith
  by-rule false true bit high z = omega arith
  by-rule false false bit high z = omega arith
  by-rule true false true true z = let e = z refl refl in omega arith
  by-rule true false true false z = let e = z refl refl in omega arith
  by-rule true false false true z = let e = z refl refl in omega arith
  by-rule true false false false z = let e = z refl refl in omega arith

-- the mask of a row, as the code makes it
abbrev fills_at : Bool → ℕ → ℕ → Bool
fills_at one y x = one && not (eqb ((x + y) % 2) 0)

mask_is : (one : Bool) (y : ℕ) → y < 4 → cond one (cond (eqb (y % 2) 0) odds evens) 0 ≡ mask_of (fills_at one y)
mask_is true y h = eqb→eq _ _ (below (λ y. eqb (cond (eqb (y % 2) 0) odds evens) (mask_of (fills_at true y))) 4 tt y h)
mask_is false y h = eqb→eq _ _ (below (λ y. eqb 0 (mask_of (fills_at false y))) 4 tt y h)

module _ (of : ℕ → ℕ → List ℕ) where
  abbrev nine : Words
  nine = words true of

  abbrev own : List ℕ
  own = of 1 1

  abbrev m : ℕ
  m = modulation own

  near-low : (x y : ℕ) → near 4 nine x y ≤ 8
  unfolding filled
  near-low x y = filled-le true of Nothing x y

  -- row y of the three blocks' weights, from the left edge of the first, and of the middle block the rows above and below it
  abbrev here : ℕ → ℕ → ℕ
  here y x = near 4 nine x (y + 4)

  abbrev over : ℕ → ℕ → ℕ
  over y x = near 4 nine (8 + x) (y + 3)

  abbrev under : ℕ → ℕ → ℕ
  under y x = near 4 nine (8 + x) (y + 5)

  -- a row of a word's weights is one of them
  row_near : (k j y q : ℕ) → y < 4 → q ≡ 4 * j + y → weight_row (of k j) y ≡ in_bytes (λ x. near 4 nine (8 * k + x) q)
  unfolding weight_row near
  row_near k j y q h e =
      bytes_same _ _
      (λ x hx.
      let a : (8 * k + x) / 8 ≡ k = omega arith in
      let b : (8 * k + x) % 8 ≡ x = omega arith in
      let c : q / 4 ≡ j = omega arith in
      let d : q % 4 ≡ y = omega arith in
      rw (a, b, c, d))

  left_near : (y : ℕ) → y < 4 → weight_row (of 0 1) y ≡ in_bytes (here y)
  left_near y h = row_near 0 1 y (y + 4) h (omega arith) ∙ bytes_same _ _ (λ x hx. ap (here y) (zero-add x))

  above-near : (y : ℕ) → y < 4 → cond (eqb y 0) (weight_row (of 1 0) 3) (get_or (tab (weight_row own) 4) (y - 1) 0) ≡ in_bytes (over y)
  unfolding tab
  above-near zero h = row_near 1 0 3 3 (omega arith) refl
  above-near (suc zero) h = row_near 1 1 0 4 (omega arith) refl
  above-near (suc (suc zero)) h = row_near 1 1 1 5 (omega arith) refl
  above-near (suc (suc (suc zero))) h = row_near 1 1 2 6 (omega arith) refl
  above-near (suc (suc (suc (suc y)))) h = absurd (omega arith)

  below-near : (y : ℕ) → y < 4 → cond (eqb y 3) (weight_row (of 1 2) 0) (get_or (tab (weight_row own) 4) (y + 1) 0) ≡ in_bytes (under y)
  unfolding tab
  below-near zero h = row_near 1 1 1 5 (omega arith) refl
  below-near (suc zero) h = row_near 1 1 2 6 (omega arith) refl
  below-near (suc (suc zero)) h = row_near 1 1 3 7 (omega arith) refl
  below-near (suc (suc (suc zero))) h = row_near 1 2 0 8 (omega arith) refl
  below-near (suc (suc (suc (suc y)))) h = absurd (omega arith)

  -- how the block is filled, by its mode and two bits
  abbrev rule : FillRule
  rule = fill_rule_of (of 1 0) own (of 1 2)

  abbrev one : Bool
  one = mode own

  abbrev bit : Bool
  bit = eqb (m % 2) 1

  abbrev high : Bool
  high = eqb (m / 1048576 % 2) 1

  beside-is : rule.beside ≡ beside bit high
  unfolding fill_rule_of
  beside-is = ap₂ (λ (b h : ℕ). 1 + b - 2 * b * h) (bit-cond (m % 2) (omega arith)) (bit-cond (m / 1048576 % 2) (omega arith))

  upright-is : rule.upright ≡ upright bit high
  unfolding fill_rule_of
  upright-is = ap₂ (λ (b h : ℕ). 1 - b + 2 * b * h) (bit-cond (m % 2) (omega arith)) (bit-cond (m / 1048576 % 2) (omega arith))

  -- row y of the weights, filled by the one sum
  abbrev values : ℕ → ℕ → ℕ
  values y x = here y (8 + x) + cond (fills_at one y x) (fill_at rule (here y) (over y) (under y) x / 4) 0

  abbrev weights : Weights
  weights = filled_rows (weight_rows (of 0 1)) (weight_rows own) (weight_rows (of 2 1)) rule

  row-filled : (y : ℕ) → y < 4 → get_or weights.rows y 0 ≡ in_bytes (values y)
  unfolding filled_rows weight_rows fill_rule_of
  row-filled y h =
      get_or-tab (filled_at (weight_rows (of 0 1)) (weight_rows own) (weight_rows (of 2 1)) rule) 4 y 0 h
      ∙ rw (
        get_or-tab (weight_row (of 0 1)) 4 y 0 h,
        get_or-tab (weight_row own) 4 y 0 h,
        get_or-tab (weight_row (of 2 1)) 4 y 0 h,
        left_near y h,
        row_near 1 1 y (y + 4) h (omega arith),
        row_near 2 1 y (y + 4) h (omega arith),
        above-near y h,
        below-near y h,
      )
      (filled_is rule (fills_at one y) (here y) (over y) (under y) (rw (beside-is, upright-is) (counts bit high))
      (λ i. near-low i (y + 4)) (λ i. near-low (8 + i) (y + 3)) (λ i. near-low (8 + i) (y + 5))
      (mask_is one y h))

  -- in mode 1 a texel that is filled holds no weight of its own
  empty : (x y : ℕ) → x < 8 → y < 4 → one ≡ true → eqb ((x + y) % 2) 0 ≡ false → near 4 nine (x + 8) (y + 4) ≡ 0
  unfolding near weight2bpp
  empty x y hx hy eo ee =
      let a : (x + 8) / 8 ≡ 1 = omega arith in
      let b : (x + 8) % 8 ≡ x = omega arith in
      let c : (y + 4) / 4 ≡ 1 = omega arith in
      let d : (y + 4) % 4 ≡ y = omega arith in
      let p : (8 * y + x) % 8 ≡ x = omega arith in
      let q : (8 * y + x) / 8 ≡ y = omega arith in
      rw (a, b, c, d) (weights-2 own (8 * y + x) (omega arith) ∙ rw (eo, p, q, ee))

  fill_is : (nine 1 1).fill ≡ cond one (cond bit (cond high AboveBelow LeftRight) Around) Nothing
  unfolding word_of fill2bpp
  fill_is =
      let a : m / 2 ^ 0 % 2 ≡ m % 2 = omega arith in
      rw a

  value-is : (x y : ℕ) → x < 8 → y < 4 → values y x ≡ filled 4 (rule_at (nine 1 1) x y) nine (x + 8) (y + 4)
  value-is x y hx hy =
      let a : 8 + x ≡ x + 8 = omega arith in
      let b : 7 + x ≡ x + 8 - 1 = omega arith in
      let c : 9 + x ≡ x + 8 + 1 = omega arith in
      let d : y + 3 ≡ y + 4 - 1 = omega arith in
      let e : y + 5 ≡ y + 4 + 1 = omega arith in
      rw (a, b, c, d, e, beside-is, upright-is, fill_is)
      (by-rule nine (x + 8) (y + 4) one (eqb ((x + y) % 2) 0) bit high (empty x y hx hy))

  weight_is : (x y : ℕ) → x < 8 → y < 4 → get_or weights.rows y 0 / 2 ^ (8 * x) % 16 ≡ filled 4 (rule_at (nine 1 1) x y) nine (x + 8) (y + 4)
  weight_is x y hx hy =
      rw (row-filled y hy)
      (byte_at (values y) x (λ i hi. rw (value-is i y hi hy) (filled-le true of (rule_at (nine 1 1) i y) (i + 8) (y + 4))) hx ∙ value-is x y hx hy)

  keep-is : (x y : ℕ) → bytes ≡ cond (punched 4 (nine 1 1) x y) clear bytes
  keep-is x y = rw (never-punched own) (none (8 * y + x))
    where
      none : (i : ℕ) → bytes ≡ cond (is_set 0 i) clear bytes
      none i = rw (zero-div (2 ^ i))

-- of the middle one of nine words
pub is_said : (of : ℕ → ℕ → List ℕ)
    → let k = filled_rows (weight_rows (of 0 1)) (weight_rows (of 1 1)) (weight_rows (of 2 1)) (fill_rule_of (of 1 0) (of 1 1) (of 1 2)) in
    Said true of (λ y. weight_meaning (get_or k.rows y 0))
is_said of x y hx hy = (weight_is of x y hx hy, keep-is of x y)
