-- Bits of a number, and bits kept together in one. Assumes nothing: these are definitions.
use Rattle.std.specs.Prelude.{Bool, cond, ℕ, zero, suc, ◌+◌, ◌-◌, ◌/◌, ◌%◌, ◌^◌, eqb}

-- Bit i of v is set.
abbrev pub is_set : ℕ → ℕ → Bool
is_set v i = eqb (v / 2 ^ i % 2) 1

-- Bits hi down to lo of v, as a number.
abbrev pub bits : ℕ → ℕ → ℕ → ℕ
bits v hi lo = v / 2 ^ lo % 2 ^ (hi - lo + 1)

-- The number whose bit i is set where f i holds, for each i below n, and no other bit.
unfoldable pub flags : (ℕ → Bool) → ℕ → ℕ
flags f zero = 0
flags f (suc n) = flags f n + cond (f n) (2 ^ n) 0
