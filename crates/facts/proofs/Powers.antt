-- Laws of powers of two. Assumes nothing.
use Rattle.std.proofs.Common.{◌≡◌, refl, sym, ap, ◌∙◌, ℕ, zero, suc, ◌+◌, ◌-◌, ◌*◌, ◌/◌, ◌^◌, ◌≤◌, ◌<◌, not-le_of_lt, arith, pow-add}
use native.Mathlib.Nat.{div-div-eq-div-mul, pow-succ'}
use lib.Pow.{pow-lt}

-- of two powers, the smaller has the smaller exponent
pub pow-le-cancel : {a b : ℕ} → 2 ^ a ≤ 2 ^ b → a ≤ b
pow-le-cancel {a} {b} h =
    let g : ¬ (b < a) = λ l. not-le_of_lt (pow-lt l) h in
    omega arith

pub lt-pow : (k : ℕ) → k < 2 ^ k
lt-pow zero = omega arith
lt-pow (suc k) = omega (arith, lt-pow k)

-- a power of two divides a larger one
pub pow-split : (j k : ℕ) → k ≤ j → 2 ^ (j - k) * 2 ^ k ≡ 2 ^ j
pow-split j k h =
    let e : (j - k) + k ≡ j = omega arith in
    sym (pow-add 2 (j - k) k) ∙ ap (λ (n : ℕ). 2 ^ n) e

pub square : (k : ℕ) → 2 ^ k * 2 ^ k ≡ 4 ^ k
square zero = refl
square (suc k) = rw (pow-succ' 2 k) (omega (arith, square k))

-- one digit of the base b is passed, and then k of them: k + 1 are passed
pub shift : (b v k : ℕ) → v / b / b ^ k ≡ v / b ^ suc k
shift b v k = div-div-eq-div-mul v b (b ^ k) ∙ ap (λ (n : ℕ). v / n) (sym (pow-succ' b k))
