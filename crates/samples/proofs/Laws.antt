-- Laws of sample files and of checksums. Assumes nothing.
use Rattle.std.proofs.Common.{◌≡◌, ℕ, zero, suc, ◌+◌, ◌*◌, ◌%◌, ◌≤◌, List, [], ◌∷◌, length, get_or, set, sym, refl, ap, ◌∙◌, le_of_suc-le-suc}
use Rattle.std.proofs.Common.{not-suc-le-zero, add-one, arith}
use Rattle.files.specs.Fields.{byte_of}
use Rattle.samples.specs.File.{with_u32}
use Rattle.samples.specs.Sums.{checksum}

-- storing past the end stores nothing
pub set_past : (l : List ℕ) (i v : ℕ) → length l ≤ i → set l i v ≡ l
set_past [] i v h = refl
set_past (a ∷ l) zero v h = absurd (not-suc-le-zero h)
set_past (a ∷ l) (suc i) v h = ap (λ (t : List ℕ). a ∷ t) (set_past l i v (le_of_suc-le-suc h))

-- the byte that tells its place, found from what is left of the place, so that no product is too large
pub place_byte : (k : ℕ) → (37 * (k % 251) + 11) % 251 ≡ (37 * k + 11) % 251
place_byte k = omega arith

-- the checksum with one number more
pub sum_more : (times prime : ℕ) (l : List ℕ) (n : ℕ) {s : ℕ} → s ≡ checksum times prime l n
    → (s % prime * times + get_or l n 0) % prime ≡ checksum times prime l (n + 1)
unfolding checksum
sum_more times prime l n e =
    ap (λ (s : ℕ). (s % prime * times + get_or l n 0) % prime) e ∙ ap (checksum times prime l) (sym (add-one n))

-- the bytes `old` with the first n of a number from place `at` on
pub placed : (at v : ℕ) → (old : List ℕ) → ℕ → List ℕ
placed at v old zero = old
placed at v old (suc n) = set (placed at v old n) (at + n) (byte_of v n)

pub placed_none : (at v : ℕ) (old : List ℕ) → old ≡ placed at v old 0
unfolding placed
placed_none at v old = refl

pub placed_more : (at v : ℕ) (old : List ℕ) (n : ℕ) → set (placed at v old n) (at + n) (byte_of v n) ≡ placed at v old (n + 1)
unfolding placed
placed_more at v old n = ap (placed at v old) (sym (add-one n))

pub placed_all : (at v : ℕ) (old : List ℕ) → placed at v old 4 ≡ with_u32 at v old
unfolding placed
placed_all at v old = let none : at + 0 ≡ at = omega arith in rw none refl
