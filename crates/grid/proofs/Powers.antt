-- Laws of powers of two and their logarithms. Assumes nothing.
use Rattle.std.proofs.Common.{◌≡◌, ℕ, zero, suc, ◌+◌, ◌-◌, ◌*◌, ◌/◌, ◌%◌, ◌^◌, ◌<◌, ◌≤◌, min, true, eqb, sym, refl, ap, ◌∙◌, ⊎_elim, eq-or-lt_of_le}
use Rattle.std.proofs.Common.{arith, count_ones, pow_pos, le-ltb, lt-ltb, eq-eqb, ne_eqb, eqb-true, bit_and, ap₂}
use native.Mathlib.Nat.{mod_self}
use Rattle.std.proofs.lemmas.Nat.{zero_from_ones, ones_cat, ones_le_self, and_mask, and_block}
use lib.Count.{ones_step}
use Rattle.facts.proofs.Numbers.{lt-or-le}
use Rattle.facts.proofs.Powers.{lt-pow}
use Rattle.grid.specs.Grid.{halvings, log2, Power, is_power}

halvings-none : (f n : ℕ) → n < 2 → halvings (suc f) n ≡ 0
unfolding halvings
halvings-none f n h = rw (lt-ltb n 2 h)

halvings-more : (f n : ℕ) → 2 ≤ n → halvings (suc f) n ≡ suc (halvings f (n / 2))
unfolding halvings
halvings-more f n h = rw (le-ltb n 2 h)

halvings-pow : (f k : ℕ) → k ≤ f → halvings f (2 ^ k) ≡ k
unfolding halvings
halvings-pow zero zero h = refl
halvings-pow zero (suc k) h = omega arith
halvings-pow (suc f) zero h = refl
halvings-pow (suc f) (suc k) h =
    let half : 2 ^ suc k / 2 ≡ 2 ^ k = omega arith in
    halvings-more f (2 ^ suc k) (omega (arith, pow_pos k)) ∙ rw (half, halvings-pow f k (omega arith))

-- the logarithm of a power is its exponent
pub log2-pow : (k : ℕ) → log2 (2 ^ k) ≡ k
unfolding log2
log2-pow k = halvings-pow (2 ^ k) k (omega (arith, lt-pow k))

-- `Power` and `is_power` say what they should: n is 2 ^ k for some k
pub power-of : (k n : ℕ) → n ≡ 2 ^ k → Power n
power-of k n e = e ∙ ap (λ (i : ℕ). 2 ^ i) (sym (ap log2 e ∙ log2-pow k))

pub is-power : (n : ℕ) → is_power n ≡ true → Power n
is-power n t = eqb-true n (2 ^ log2 n) t

pub power-above : (n : ℕ) → Power n → 0 < n
power-above n p = omega (arith, pow_pos (log2 n))

-- half a power above one is a power, and its logarithm one less
pub half-power : (n : ℕ) → Power n → (n ≡ 1 → ⊥) → Power (n / 2) × (log2 n ≡ suc (log2 (n / 2)))
half-power n p above = by (log2 n) refl
  where
    by : (k : ℕ) → log2 n ≡ k → Power (n / 2) × (log2 n ≡ suc (log2 (n / 2)))
    by zero e = absurd (above (p ∙ ap (λ (i : ℕ). 2 ^ i) e))
    by (suc k) e =
        let half : n / 2 ≡ 2 ^ k = omega (arith, p, ap (λ (i : ℕ). 2 ^ i) e) in
        (power-of k (n / 2) half, e ∙ ap suc (sym (ap log2 half ∙ log2-pow k)))

-- the smaller of two powers is a power
pub min-power : (m n : ℕ) → Power m → Power n → Power (min m n)
min-power m n pm pn =
    ⊎_elim
    (λ less. let e : min m n ≡ m = omega arith in rw e pm)
    (λ more. let e : min m n ≡ n = omega arith in rw e pn)
    (lt-or-le m n)

halvings-bounds : (f n : ℕ) → n ≤ f → 0 < n → (2 ^ halvings f n ≤ n) × (n < 2 ^ suc (halvings f n))
halvings-bounds zero n h p = omega arith
halvings-bounds (suc f) n h p =
    ⊎_elim
    (λ less. rw (halvings-none f n less) (omega arith))
    (λ more.
    let half : (2 ^ halvings f (n / 2) ≤ n / 2) × (n / 2 < 2 ^ suc (halvings f (n / 2))) = halvings-bounds f (n / 2) (omega arith) (omega arith) in
    rw (halvings-more f n more) (omega arith))
    (lt-or-le n 2)

-- a number lies from its logarithm's power up to the next power
pub log2-bounds : (n : ℕ) → 0 < n → (2 ^ log2 n ≤ n) × (n < 2 ^ suc (log2 n))
unfolding log2
log2-bounds n p = halvings-bounds n n (omega arith) p

-- `n & (n - 1)` of a power of two is 0
mask-of-power : (k : ℕ) → bit_and (2 ^ k) (2 ^ k - 1) ≡ 0
mask-of-power k = and_mask (2 ^ k) k ∙ mod_self (2 ^ k)

-- and of any other number keeps its top bit
mask-of-other : (k r : ℕ) → 0 < r → r < 2 ^ k → 2 ^ k ≤ bit_and (2 ^ k + r) (2 ^ k + r - 1)
mask-of-other k r p h =
    let a : 2 ^ k + r ≡ 1 * 2 ^ k + r = omega arith in
    let b : 2 ^ k + r - 1 ≡ 1 * 2 ^ k + (r - 1) = omega arith in
    omega (arith, ap₂ bit_and a b, and_block k 1 1 r (r - 1) h (omega arith))

-- so the test by a mask is the test
pub mask-test : (n : ℕ) → (n ≡ 0 → ⊥) → eqb (bit_and n (n - 1)) 0 ≡ is_power n
mask-test n p =
    let b = log2-bounds n (omega arith) in
    ⊎_elim
    (λ e.
    let none : bit_and n (n - 1) ≡ 0 = ap (λ (m : ℕ). bit_and m (m - 1)) (sym e) ∙ mask-of-power (log2 n) in
    eq-eqb (bit_and n (n - 1)) 0 none ∙ sym (eq-eqb n (2 ^ log2 n) (sym e)))
    (λ l.
    let r : ℕ = n - 2 ^ log2 n in
    let s : 2 ^ log2 n + r ≡ n = omega arith in
    let m : bit_and (2 ^ log2 n + r) (2 ^ log2 n + r - 1) ≡ bit_and n (n - 1) = ap (λ (i : ℕ). bit_and i (i - 1)) s in
    ne_eqb (bit_and n (n - 1)) 0 (omega (arith, pow_pos (log2 n), mask-of-other (log2 n) r (omega arith) (omega arith)))
    ∙ sym (ne_eqb n (2 ^ log2 n) (omega arith)))
    (eq-or-lt_of_le b.0)

-- a power's one bit: every other number has one more below its top bit
pub one-bit : (n : ℕ) → eqb (count_ones n) 1 ≡ is_power n
one-bit zero =
    ne_eqb (count_ones 0) 1 (omega (arith, ones_le_self 0)) ∙ sym (ne_eqb 0 (2 ^ log2 0) (omega (arith, pow_pos (log2 0))))
one-bit (suc m) =
    let n : ℕ = suc m in
    let r : ℕ = n - 2 ^ log2 n in
    let b : (2 ^ log2 n ≤ n) × (n < 2 ^ suc (log2 n)) = log2-bounds n (omega arith) in
    let cut : n ≡ 1 * 2 ^ log2 n + r = omega arith in
    let ones : count_ones n ≡ 1 + count_ones r =
    ap count_ones cut ∙ omega (arith, ones_cat (log2 n) 1 r (omega arith), ones_step 1, ones_le_self 0) in
    ⊎_elim
    (λ e. let none : r ≡ 0 = omega arith in eq-eqb (count_ones n) 1 (omega (arith, ap count_ones none, ones_le_self 0)) ∙ sym (eq-eqb n (2 ^ log2 n) (sym e)))
    (λ l.
    ne_eqb (count_ones n) 1 (λ e. let none : r ≡ 0 = zero_from_ones r (omega arith) in omega arith)
    ∙ sym (ne_eqb n (2 ^ log2 n) (omega arith)))
    (eq-or-lt_of_le b.0)

-- a mask of a power of two is its remainder
pub mask-mod : (k n side : ℕ) → side ≡ 2 ^ k → bit_and n (side - 1) ≡ n % side
mask-mod k n side e = ap (λ (m : ℕ). bit_and n (m - 1)) e ∙ and_mask n k ∙ ap (λ (m : ℕ). n % m) (sym e)
