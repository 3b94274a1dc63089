-- Laws of halving a side, and of how often it can be halved. Assumes nothing.
use Rattle.std.proofs.Common.{◌≡◌, ℕ, zero, suc, ◌*◌, ◌/◌, ◌^◌, ◌<◌, ◌≤◌, max, sym, refl, ap, ◌∙◌, ⊎_elim, div-lt_iff_lt-mul, eq-or-lt_of_le}
use Rattle.std.proofs.Common.{le-div_iff_mul-le, arith, pow_pos}
use native.Mathlib.Nat.{div-div-eq-div-mul, pow-succ'}
use lib.Pow.{pow-lt}
use Rattle.facts.proofs.Numbers.{lt-or-le}
use Rattle.facts.proofs.Powers.{pow-le-cancel}
use Rattle.grid.specs.Grid.{halvings, log2}
use Rattle.grid.proofs.Powers.{log2-bounds}
use Rattle.levels.specs.Levels.{halved}
use Rattle.levels.specs.Ranges.{Halving}

-- a side that is not 0 never gets there
pub halved-above : (k side : ℕ) → 0 < side → 0 < halved k side
unfolding halved
halved-above zero side h = h
halved-above (suc k) side h = omega arith

-- and none grows above a bound
pub halved-small : (k side most : ℕ) → 1 ≤ most → side ≤ most → halved k side ≤ most
unfolding halved
halved-small zero side most one h = h
halved-small (suc k) side most one h = omega (arith, halved-small k side most one h)

-- half of a quotient by a power is the quotient by the next one
next_power : (side k : ℕ) → side / 2 ^ k / 2 ≡ side / 2 ^ suc k
next_power side k =
    let two : 2 ^ k * 2 ≡ 2 ^ suc k = rw (pow-succ' 2 k) (omega arith) in
    div-div-eq-div-mul side (2 ^ k) 2 ∙ ap (λ (n : ℕ). side / n) two

-- so halving step by step is dividing once, never below 1
pub halving : Halving
unfolding halved
halving zero side h = omega arith
halving (suc k) side h = omega (arith, halving k side h, next_power side k)

-- a larger exponent has no smaller power
pow-le : {a b : ℕ} → a ≤ b → 2 ^ a ≤ 2 ^ b
pow-le {a} {b} h = ⊎_elim (λ e. omega (arith, ap (λ (n : ℕ). 2 ^ n) e)) (λ less. omega (arith, pow-lt less)) (eq-or-lt_of_le h)

pow_lt_cancel : {a b : ℕ} → 2 ^ a < 2 ^ b → a < b
pow_lt_cancel {a} {b} h = ⊎_elim (λ less. less) (λ more. absurd (omega (arith, pow-le more))) (lt-or-le a b)

-- the logarithm is the one exponent whose power a number reaches, while it does not reach the next
pub log2-is : (k n : ℕ) → 2 ^ k ≤ n → n < 2 ^ suc k → log2 n ≡ k
log2-is k n low high =
    let b = log2-bounds n (omega (arith, pow_pos k)) in
    let up : k < suc (log2 n) = pow_lt_cancel (omega (arith, b.1)) in
    let down : log2 n < suc k = pow_lt_cancel (omega (arith, b.0)) in
    omega arith

-- a number from 2 on can be halved once more than its half
pub log2-half : (n : ℕ) → 2 ≤ n → log2 n ≡ suc (log2 (n / 2))
log2-half n h =
    let b = log2-bounds (n / 2) (omega arith) in
    log2-is (suc (log2 (n / 2))) n (omega (arith, b.0)) (omega (arith, b.1))

-- one below 2 cannot
pub log2-none : (n : ℕ) → n < 2 → log2 n ≡ 0
unfolding log2 halvings
log2-none zero h = refl
log2-none (suc zero) h = refl
log2-none (suc (suc n)) h = absurd (omega arith)

-- and 0 no more often than 1
pub log2-max : (side m : ℕ) → m ≡ max side 1 → log2 m ≡ log2 side
log2-max side m e =
    ⊎_elim
    (λ less. log2-none m (omega (arith, e)) ∙ sym (log2-none side less))
    (λ more. ap log2 (omega (arith, e)))
    (lt-or-le side 2)

-- a side up to 65,536 can be halved sixteen times at most
pub log2-small : (n : ℕ) → n ≤ 65536 → log2 n ≤ 16
log2-small n h =
    ⊎_elim
    (λ less. omega (arith, log2-none n less))
    (λ more. pow-le-cancel {b = 16} (omega (arith, (log2-bounds n (omega arith)).0)))
    (lt-or-le n 2)

-- halved as often as the longer side can be, a side is 1
pub halved-out : (side longer : ℕ) → 0 < side → side ≤ longer → halved (log2 longer) side ≡ 1
halved-out side longer some h =
    let k : ℕ = log2 longer in
    let high : longer < 2 ^ suc k = (log2-bounds longer (omega arith)).1 in
    let below : side / 2 ^ k < 2 = (div-lt_iff_lt-mul {k = 2 ^ k} {x = side} {y = 2} (pow_pos k)).1 (omega (arith, pow-succ' 2 k)) in
    omega (arith, halving k side some)

-- and halved less often the longer side is not
pub halved-before : (k longer : ℕ) → 0 < longer → k < log2 longer → 2 ≤ halved k longer
halved-before k longer some h =
    let reach : 2 ^ suc k ≤ 2 ^ log2 longer = pow-le (omega arith) in
    let low : 2 ^ log2 longer ≤ longer = (log2-bounds longer some).0 in
    let above : 2 ≤ longer / 2 ^ k = (le-div_iff_mul-le {k = 2 ^ k} {x = 2} {y = longer} (pow_pos k)).1 (omega (arith, pow-succ' 2 k)) in
    omega (arith, halving k longer some)
