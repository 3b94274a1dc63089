-- Laws of sums. Assumes nothing.
use Rattle.std.proofs.Common.{◌≡◌, refl, ap, ap₂, ⊎_elim, ℕ, zero, suc, ◌+◌, ◌*◌, ◌≤◌, ◌<◌, add-zero, add-suc, mul-le-mul_right, not-suc-le-zero}
use Rattle.std.proofs.Common.{le_of_suc-le-suc, eq-or-lt_of_le, arith}
use Rattle.facts.specs.Sum.{sum}

-- sums of equal terms are equal
pub sum_same : (f g : ℕ → ℕ) (n : ℕ) → ((k : ℕ) → k < n → f k ≡ g k) → sum f n ≡ sum g n
unfolding sum
sum_same f g zero e = refl
sum_same f g (suc n) e = ap₂ (λ (a b : ℕ). a + b) (sum_same f g n (λ k h. e k (omega arith))) (e n (omega arith))

-- sums of smaller terms are smaller
pub sum-le : (f g : ℕ → ℕ) (n : ℕ) → ((k : ℕ) → k < n → f k ≤ g k) → sum f n ≤ sum g n
unfolding sum
sum-le f g zero e = omega arith
sum-le f g (suc n) e = omega (arith, sum-le f g n (λ k h. e k (omega arith)), e n (omega arith))

-- no term is larger than the sum
pub term-le : (f : ℕ → ℕ) (n k : ℕ) → k < n → f k ≤ sum f n
unfolding sum
term-le f zero k h = absurd (not-suc-le-zero h)
term-le f (suc n) k h =
    ⊎_elim
    (λ e. omega (arith, ap f e))
    (λ lt. omega (arith, term-le f n k lt))
    (eq-or-lt_of_le (le_of_suc-le-suc h))

-- a longer sum is no smaller
pub sum-front : (f : ℕ → ℕ) (m n : ℕ) → sum f m ≤ sum f (m + n)
unfolding sum
sum-front f m zero = rw (add-zero m) (omega arith)
sum-front f m (suc n) = rw (add-suc m n) (omega (arith, sum-front f m n))

-- a common factor
pub sum-times : (f : ℕ → ℕ) (m n : ℕ) → sum (λ k. m * f k) n ≡ m * sum f n
unfolding sum
sum-times f m zero = omega arith
sum-times f m (suc n) = omega (arith, sum-times f m n)

-- a sum of products is at most the largest first factor times the sum of the second ones
pub products-le : (f g : ℕ → ℕ) (m n : ℕ) → ((k : ℕ) → k < n → f k ≤ m) → sum (λ k. f k * g k) n ≤ m * sum g n
products-le f g m n h =
    rw (← sum-times g m n) (sum-le (λ k. f k * g k) (λ k. m * g k) n (λ k l. mul-le-mul_right (g k) (h k l)))
