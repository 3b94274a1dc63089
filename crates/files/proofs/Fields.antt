-- A number in a file depends on its own bytes, and so on none behind them. Assumes nothing.
use Rattle.std.proofs.Common.{◌≡◌, ℕ, zero, suc, ◌+◌, ◌-◌, ◌*◌, ◌/◌, ◌%◌, ◌^◌, ◌<◌, ◌≤◌, min, Bool, true, false, not, T, ◌≢◌, List, [], ◌++◌, length, get_or}
use Rattle.std.proofs.Common.{take, drop, set, Some, None, Option, sym, refl, ap, ◌∙◌, ⊎_elim, add_assoc, mod-eq_of_lt, zero-lt-suc, div-add-mod', div-one}
use Rattle.std.proofs.Common.{arith, length-drop, drop_of_length-le, get_or-drop, take_all, get_or-set_other, get_or-set_same, ext_get_or, Bor, below_more}
use native.Mathlib.Nat.{pow-le-pow_right, div-eq_of_lt, div-div-eq-div-mul}
use lib.ListN.{get_or-append}
use Rattle.std.specs.Slice.{IsGetRangeResult}
use Rattle.std.specs.Option.{unwrap_or}
use Rattle.std.specs.Int.{to_le_bytes, from_le_bytes, w32, w64}
use Rattle.facts.specs.Finite.{all_below}
use Rattle.facts.proofs.Finite.{below}
use Rattle.facts.proofs.Numbers.{lt-or-le}
use Rattle.files.specs.Fields.{u32_at, u64_at, byte_of, bits_of}

-- two files with the same four bytes from a place on have the same number there
pub same-field : (f g : List ℕ) (at : ℕ) → ((k : ℕ) → k < 4 → get_or f (at + k) 0 ≡ get_or g (at + k) 0) → u32_at f at ≡ u32_at g at
unfolding u32_at
same-field f g at e =
    let none : at + 0 ≡ at = omega arith in
    rw (rw none at (e 0 (omega arith)), e 1 (omega arith), e 2 (omega arith), e 3 (omega arith))

-- so have two files that agree below a size but at some ignored places, where no byte of the number is ignored
module _ (f g : List ℕ) (is_ignored : ℕ → Bool) (size : ℕ) (e : (i : ℕ) → i < size → is_ignored i ≡ false → get_or f i 0 ≡ get_or g i 0) where
  pub field-kept : (at : ℕ) → at + 4 ≤ size → T (all_below (λ k. not (is_ignored (at + k))) 4) → u32_at f at ≡ u32_at g at
  field-kept at h t = same-field f g at (λ k l. e (at + k) (omega arith) (read (is_ignored (at + k)) (below (λ k. not (is_ignored (at + k))) 4 t k l)))
    where
      read : (b : Bool) → T (not b) → b ≡ false
      read true q = absurd q
      read false q = refl

-- a number below 2 ^ 32 is its four bytes: each time the low one, and what is above it
joined : (v a b c r s t : ℕ) → a * 256 + r ≡ v → b * 256 + s ≡ a → c * 256 + t ≡ b → r + 256 * s + 65536 * t + 16777216 * c ≡ v
joined v a b c r s t ev ea eb = omega arith

four_bytes : (v : ℕ) → v < 4294967296 → byte_of v 0 + 256 * byte_of v 1 + 65536 * byte_of v 2 + 16777216 * byte_of v 3 ≡ v
four_bytes v h =
    let a : ℕ = v / 256 in
    let b : ℕ = a / 256 in
    let c : ℕ = b / 256 in
    let second : v / 65536 ≡ b = sym (div-div-eq-div-mul v 256 256) in
    let third : v / 16777216 ≡ c = sym (div-div-eq-div-mul v 256 65536) ∙ sym (div-div-eq-div-mul a 256 256) in
    let top : c % 256 ≡ c = mod-eq_of_lt (omega (arith, third)) in
    rw (div-one v, second, third, top) (joined v a b c (v % 256) (a % 256) (b % 256) (div-add-mod' v 256) (div-add-mod' a 256) (div-add-mod' b 256))

-- so where the four bytes of a number stand, that number is read
pub bytes_read : (file : List ℕ) (at v : ℕ) → v < 4294967296 → ((k : ℕ) → k < 4 → get_or file (at + k) 0 ≡ byte_of v k) → u32_at file at ≡ v
unfolding u32_at
bytes_read file at v h e =
    let none : at + 0 ≡ at = omega arith in
    rw (rw none at (e 0 (omega arith)), e 1 (omega arith), e 2 (omega arith), e 3 (omega arith)) (four_bytes v h)

-- where a place is named in two parts, the number is that of the four bytes there
pub from_parts : (file : List ℕ) (at k : ℕ)
    → get_or file (at + k) 0 + 256 * get_or file (at + (k + 1)) 0 + 65536 * get_or file (at + (k + 2)) 0 + 16777216 * get_or file (at + (k + 3)) 0
    ≡ u32_at file (at + k)
unfolding u32_at
from_parts file at k = rw (add_assoc at k 1, add_assoc at k 2, add_assoc at k 3)

-- later bytes leave a number as it is
pub field-before : (file more : List ℕ) (at : ℕ) → at + 4 ≤ length file → u32_at (file ++ more) at ≡ u32_at file at
field-before file more at h = same-field (file ++ more) file at (λ k l. get_or-append file more 0 (at + k) (omega arith))

-- two files of one length that are alike from a place on have the same rest
pub rest-same : (f g : List ℕ) (n : ℕ) → length f ≡ length g → ((i : ℕ) → n ≤ i → get_or f i 0 ≡ get_or g i 0) → drop n f ≡ drop n g
rest-same f g n even e =
    ext_get_or 0 (drop n f) (drop n g) (length-drop n f ∙ omega (arith, even, length-drop n g))
    (λ k _. get_or-drop n f k 0 ∙ e (n + k) (omega arith) ∙ sym (get_or-drop n g k 0))

-- the data from the payload on, or from the file's end where that comes first
pub data_is : (file : List ℕ) (start payload : ℕ) → start ≡ min payload (length file)
    → take (length file - start) (drop start file) ≡ drop payload file
data_is file start payload e =
    take_all (length file - start) (drop start file) (omega (arith, length-drop start file))
    ∙ ⊎_elim
    (λ less. let same : start ≡ payload = omega arith in ap (λ (n : ℕ). drop n file) same)
    (λ more. drop_of_length-le file {i = start} (omega arith) ∙ sym (drop_of_length-le file more))
    (lt-or-le payload (length file))

-- the bits of a texel tell the depth
pub same-depth : (a b : Bool) → bits_of a ≡ bits_of b → a ≡ b
same-depth true true e = refl
same-depth true false e = absurd (omega arith)
same-depth false true e = absurd (omega arith)
same-depth false false e = refl

-- a list that has the first k numbers of another, with number k put after them
pub next-read : (bytes rest : List ℕ) {k v : ℕ} → k < length bytes → v ≡ get_or rest k 0 → ((j : ℕ) → j < k → get_or bytes j 0 ≡ get_or rest j 0)
    → (j : ℕ) → j < k + 1 → get_or (set bytes k v) j 0 ≡ get_or rest j 0
next-read bytes rest {k} within read before =
    below_more _ _ (λ j h. let other : j ≢ k = omega arith in rw get_or-set_other (before j h)) (rw get_or-set_same read)

-- the rest of a file from a place on, or nothing where the place is behind its end
pub rest-is : (file : List ℕ) (at : ℕ) (rest : Option (Bor (List ℕ))) (none : Bor (List ℕ)) {found : Bor (List ℕ)}
    → IsGetRangeResult file at (length file) rest → none.now ≡ [] → found ≡ unwrap_or rest none → found.now ≡ drop at file
rest-is file at None none past z e =
    let behind : length file ≤ at = ⊎_elim (λ (l : length file < at). omega arith) (λ (l : length file < length file). omega arith) past.0 in
    ap (λ (b : Bor (List ℕ)). b.now) e ∙ z ∙ sym (drop_of_length-le file behind)
rest-is file at (Some x) none part z e =
    ap (λ (b : Bor (List ℕ)). b.now) e
    ∙ part.0.2
    ∙ take_all (length file - at) (drop at file) (omega (arith, length-drop at file))

-- bytes read one by one, put together as the library puts them
pub four-read : (file : List ℕ) (at : ℕ) (bytes : List ℕ) → ((k : ℕ) → k < 4 → get_or bytes k 0 ≡ get_or file (at + k) 0)
    → from_le_bytes w32 bytes ≡ u32_at file at
unfolding u32_at
four-read file at bytes e =
    let none : at + 0 ≡ at = omega arith in
    rw (e 0 (omega arith), none, e 1 (omega arith), e 2 (omega arith), e 3 (omega arith)) (omega arith)

pub eight-read : (file : List ℕ) (at : ℕ) (bytes : List ℕ) → ((k : ℕ) → k < 8 → get_or bytes k 0 ≡ get_or file (at + k) 0)
    → from_le_bytes w64 bytes ≡ u64_at file at
unfolding u32_at
eight-read file at bytes e =
    let none : at + 0 ≡ at = omega arith in
    rw (
      e 0 (omega arith),
      none,
      e 1 (omega arith),
      e 2 (omega arith),
      e 3 (omega arith),
      e 4 (omega arith),
      e 5 (omega arith),
      e 6 (omega arith),
      e 7 (omega arith),
      add_assoc at 4 1,
      add_assoc at 4 2,
      add_assoc at 4 3,
    ) (omega arith)

-- the bytes that the library writes of a number
no-fifth : (v k : ℕ) → v < 4294967296 → 4 ≤ k → byte_of v k ≡ 0
no-fifth v k h l =
    let above : 256 ^ 4 ≤ 256 ^ k = pow-le-pow_right (zero-lt-suc 255) l in
    ap (λ (n : ℕ). n % 256) (div-eq_of_lt {n = v} {m = 256 ^ k} (omega arith))

pub bytes-written : (v k : ℕ) → v < 4294967296 → get_or (to_le_bytes w32 v) k 0 ≡ byte_of v k
bytes-written v zero h = rw (div-one v) refl
bytes-written v (suc zero) h = refl
bytes-written v (suc (suc zero)) h = refl
bytes-written v (suc (suc (suc zero))) h = refl
bytes-written v (suc (suc (suc (suc k)))) h = sym (no-fifth v (suc (suc (suc (suc k)))) h (omega arith))
