-- Laws of natural numbers that the library lacks. Assumes nothing.
use Rattle.std.proofs.Common.{◌≡◌, refl, ap, Bool, true, false, cond, ◌⊎◌, inl, inr, ℕ, ◌+◌, ◌*◌, ◌/◌, ◌%◌, ◌≤◌, ◌<◌, div-add-mod', arith, ltb, ltb-true}
use Rattle.std.proofs.Common.{ltb-false}
use native.Mathlib.Nat.{div-eq_of_lt-le}

-- of two numbers the first is smaller, or the second is not larger
pub lt-or-le : (m n : ℕ) → (m < n) ⊎ (n ≤ m)
lt-or-le m n = by (ltb m n) refl
  where
    by : (t : Bool) → ltb m n ≡ t → (m < n) ⊎ (n ≤ m)
    by true e = inl (ltb-true m n e)
    by false e = inr (ltb-false m n e)

-- a number by its quotient and its remainder
pub split : (b s k r : ℕ) → s ≡ k * b + r → r < b → (s / b ≡ k) × (s % b ≡ r)
split b s k r e l =
    let q : s / b ≡ k = div-eq_of_lt-le b (omega arith) (omega arith) in
    (q, omega (arith, div-add-mod' s b, ap (λ (m : ℕ). m * b) q))

-- a choice is bounded where both of its arms are
pub cond-le : (t : Bool) {a b m : ℕ} → a ≤ m → b ≤ m → cond t a b ≤ m
cond-le true h k = h
cond-le false h k = k
