-- Laws of bits kept together in one number. Assumes nothing.
use Rattle.std.proofs.Common.{◌≡◌, refl, sym, ap, ◌∙◌, Bool, true, false, cond, ⊎_elim, ℕ, zero, suc, ◌+◌, ◌-◌, ◌*◌, ◌/◌, ◌%◌, ◌^◌, ◌<◌, le_of_suc-le-suc}
use Rattle.std.proofs.Common.{not-suc-le-zero, eq-or-lt_of_le, add-one, arith, bit_or, pow_pos}
use native.Mathlib.Nat.{pow-succ', add-mul-div_right}
use lib.Bits.{or_shifted_r}
use Rattle.facts.specs.Bits.{flags}
use Rattle.facts.proofs.Numbers.{split}
use Rattle.facts.proofs.Powers.{pow-split}

-- a choice between a number and 0, as a product
cond-times : (t : Bool) (m : ℕ) → cond t m 0 ≡ cond t 1 0 * m
cond-times true m = omega arith
cond-times false m = omega arith

cond-one : (t : Bool) → cond t 1 0 < 2
cond-one true = omega arith
cond-one false = omega arith

more_lt : (t : Bool) (a m : ℕ) → a < m → a + cond t m 0 < 2 * m
more_lt true a m h = omega arith
more_lt false a m h = omega arith

pub flags-lt : (f : ℕ → Bool) (n : ℕ) → flags f n < 2 ^ n
unfolding flags
flags-lt f zero = omega arith
flags-lt f (suc n) = rw (pow-succ' 2 n) (more_lt (f n) (flags f n) (2 ^ n) (flags-lt f n))

-- a multiple of a larger power leaves a bit as it is
above : (a c i n : ℕ) → i < n → (a + c * 2 ^ n) / 2 ^ i % 2 ≡ a / 2 ^ i % 2
above a c i n l =
    let m : ℕ = 2 ^ (n - suc i) in
    let e : m * (2 * 2 ^ i) ≡ 2 ^ n = ap (λ (p : ℕ). m * p) (sym (pow-succ' 2 i)) ∙ pow-split n (suc i) l in
    let s : a + c * 2 ^ n ≡ a + (2 * (c * m)) * 2 ^ i = omega (arith, ap (λ (p : ℕ). c * p) e) in
    let q : (a + (2 * (c * m)) * 2 ^ i) / 2 ^ i ≡ a / 2 ^ i + 2 * (c * m) = add-mul-div_right a (2 * (c * m)) (pow_pos i) in
    rw (s, q) (omega arith)

-- bit i is set where f i holds
pub flags-bit : (f : ℕ → Bool) (n i : ℕ) → i < n → flags f n / 2 ^ i % 2 ≡ cond (f i) 1 0
unfolding flags
flags-bit f zero i l = absurd (not-suc-le-zero l)
flags-bit f (suc n) i l =
    ⊎_elim
    (λ e. rw (e, cond-times (f n) (2 ^ n))
    (let top = split (2 ^ n) (flags f n + cond (f n) 1 0 * 2 ^ n) (cond (f n) 1 0) (flags f n) (omega arith) (flags-lt f n) in
    omega (arith, cond-one (f n))))
    (λ lt. rw (cond-times (f n) (2 ^ n)) (above (flags f n) (cond (f n) 1 0) i n lt ∙ flags-bit f n i lt))
    (eq-or-lt_of_le (le_of_suc-le-suc l))

-- one flag more, as a loop's next number has it
pub flags-more : (f : ℕ → Bool) (n : ℕ) → flags f (n + 1) ≡ flags f n + cond (f n) (2 ^ n) 0
unfolding flags
flags-more f n = ap (flags f) (add-one n)

-- a loop's invariant: the flags of the numbers below n are set in g, and no other bit
pub record Flagged (f : ℕ → Bool) (n g : ℕ) : Type 0 where
  pub is : g ≡ flags f n

pub flagged-none : (f : ℕ → Bool) → Flagged f 0 0
unfolding flags
flagged-none f = record { is = refl }

-- the next bit is put in where f holds
pub flagged-more : {f : ℕ → Bool} {n g b : ℕ} → Flagged f n g → b ≡ cond (f n) (2 ^ n) 0 → Flagged f (n + 1) (bit_or g b)
flagged-more {f} {n} h e =
    record {
      is =
          rw (h.is, e, cond-times (f n) (2 ^ n), or_shifted_r (cond (f n) 1 0) n (flags f n) (flags-lt f n))
          (omega (arith, flags-more f n, cond-times (f n) (2 ^ n)));
    }
