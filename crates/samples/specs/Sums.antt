-- Checksums. Assumes nothing: these are definitions.
use Rattle.std.specs.Prelude.{List, ℕ, zero, suc, ◌+◌, ◌*◌, ◌%◌, get_or}

-- The checksum of the first n numbers of a list: each is added to so many times the sum before it, modulo a prime. So a change of one number
-- alone, by less than the prime, always changes the sum.
unfoldable pub checksum : (times prime : ℕ) → List ℕ → ℕ → ℕ
checksum times prime l zero = 0
checksum times prime l (suc n) = (checksum times prime l n % prime * times + get_or l n 0) % prime
