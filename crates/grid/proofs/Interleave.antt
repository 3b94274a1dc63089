-- Each bit of an address is the one that document 01 says. Assumes nothing.
use Rattle.std.proofs.Common.{◌≡◌, ℕ, zero, suc, ◌+◌, ◌*◌, ◌/◌, ◌%◌, ◌^◌, ◌<◌, ◌≤◌, min, Bool, true, false, cond, leb, sym, refl, ap, ◌∙◌, div-one}
use Rattle.std.proofs.Common.{arith, pow-add, shr-shr, leb-false, leb-true}
use native.Mathlib.Nat.{div-eq_of_lt}
use Rattle.facts.proofs.Powers.{shift, square}
use Rattle.grid.specs.Grid.{log2, Power, address, Interleaved}
use Rattle.grid.proofs.Powers.{min-power}

-- a place among pairs of bits, as a place among bits
pairs : (i : ℕ) → 4 ^ i ≡ 2 ^ (2 * i)
pairs i =
    let e : i + i ≡ 2 * i = omega arith in
    sym (square i) ∙ sym (pow-add 2 i i) ∙ ap (λ (n : ℕ). 2 ^ n) e

upper : (k x y : ℕ) → address (suc k) x y / 4 ≡ address k (x / 2) (y / 2)
unfolding address
upper k x y = omega arith

-- above the pairs of bits stands what is left of x and y
above : (k x y : ℕ) → address k x y / 4 ^ k ≡ x / 2 ^ k + y / 2 ^ k
unfolding address
above zero x y = simp div-one
above (suc k) x y =
    rw (← shift 4 (address (suc k) x y) k, upper k x y, ← shift 2 x k, ← shift 2 y k) (above k (x / 2) (y / 2))

-- pair i is x's bit i and y's bit i
pair : (k i x y : ℕ) → i < k → address k x y / 4 ^ i % 4 ≡ 2 * (x / 2 ^ i % 2) + y / 2 ^ i % 2
unfolding address
pair zero i x y h = absurd (omega arith)
pair (suc k) zero x y h = simp div-one (omega arith)
pair (suc k) (suc i) x y h =
    rw (← shift 4 (address (suc k) x y) i, upper k x y, ← shift 2 x i, ← shift 2 y i) (pair k i (x / 2) (y / 2) (omega arith))

module _ (gx gy x y : ℕ) (px : Power gx) (py : Power gy) (hx : x < gx) (hy : y < gy) where
  rest : (wide : Bool) → leb gy gx ≡ wide → x / 2 ^ log2 (min gx gy) + y / 2 ^ log2 (min gx gy) ≡ cond wide x y / 2 ^ log2 (min gx gy)
  rest true e =
      let le : gy ≤ gx = leb-true gy gx e in
      rw (div-eq_of_lt {n = y} {m = 2 ^ log2 (min gx gy)} (omega (arith, min-power gx gy px py))) (omega arith)
  rest false e =
      let lt : gx < gy = leb-false gy gx e in
      rw (div-eq_of_lt {n = x} {m = 2 ^ log2 (min gx gy)} (omega (arith, min-power gx gy px py))) (omega arith)

  pub interleaved : Interleaved gx gy x y
  interleaved =
      let k : ℕ = log2 (min gx gy) in
      let z : ℕ = address k x y in
      record {
        bit-of-y = λ i h. rw (← pairs i) (omega (arith, pair k i x y h));
        bit-of-x = λ i h. omega (arith, pair k i x y h, shr-shr z (2 * i) 1, ap (λ (n : ℕ). z / n) (pairs i));
        rest = rw (← pairs k) (above k x y ∙ rest (leb gy gx) refl);
      }
