-- Laws of eight numbers as the bytes of one, and of a row of weights filled by one sum, for any rule. Assumes nothing.
use Rattle.std.proofs.Common.{◌≡◌, ℕ, zero, suc, ◌+◌, ◌*◌, ◌/◌, ◌%◌, ◌^◌, ◌<◌, ◌≤◌, Bool, true, false, cond, List, [], ◌∷◌, get_or, bit_and, sym, ap, ◌∙◌}
use Rattle.std.proofs.Common.{ap₂, mul-le-mul_left, arith, shr-shr, rules}
use native.Mathlib.Nat.{zero-div}
use lib.Bits.{and_block, and_mask, and_zero_l, and_zero_r}
use Rattle.facts.proofs.Tab.{get_or-tab}
use Rattle.facts.specs.Tab.{tab}
use Rattle.lanes.specs.declared.FillRule.{FillRule}
use Rattle.lanes.specs.Block2bpp.{row, in_bytes, beside_row, filled_row, LowRow}

-- eight numbers count, and not how they are written
pub bytes_same : (f g : ℕ → ℕ) → ((x : ℕ) → x < 8 → f x ≡ g x) → in_bytes f ≡ in_bytes g
unfolding in_bytes
bytes_same f g e =
    rw (e 0 (omega arith), e 1 (omega arith), e 2 (omega arith), e 3 (omega arith), e 4 (omega arith), e 5 (omega arith), e 6 (omega arith), e 7 (omega arith))

-- which bytes a mask keeps the low half of
abbrev pub masks : List Bool → List ℕ
masks [] = []
masks (k ∷ ks) = cond k 15 0 ∷ masks ks

abbrev kept : List ℕ → List Bool → List ℕ
kept [] ks = []
kept (x ∷ xs) [] = []
kept (x ∷ xs) (k ∷ ks) = cond k (x / 4) 0 ∷ kept xs ks

abbrev Below : ℕ → List ℕ → Type 0
Below n [] = Unit {0}
Below n (x ∷ xs) = (x < n) × Below n xs

low_bits : (x z : ℕ) (k : Bool) → x < 64 → bit_and (x / 4 + 64 * (z % 4)) (cond k 15 0) ≡ cond k (x / 4) 0
low_bits x z true h = and_mask (x / 4 + 64 * (z % 4)) 4 ∙ omega arith
low_bits x z false h = and_zero_r (x / 4 + 64 * (z % 4))

mask-small : (k : Bool) → cond k 15 0 < 256
mask-small true = omega arith
mask-small false = omega arith

-- each byte divided by four and masked apart
quarter : (xs : List ℕ) (ks : List Bool) → Below 64 xs → bit_and (row xs / 4) (row (masks ks)) ≡ row (kept xs ks)
quarter [] ks b = and_zero_l (row (masks ks))
quarter (x ∷ xs) [] b = and_zero_r (row (x ∷ xs) / 4)
quarter (x ∷ xs) (k ∷ ks) b =
    let R = row xs in
    let M = row (masks ks) in
    let h = b.0 in
    let y = x / 4 + 64 * (R % 4) in
    let p : (x + 256 * R) / 4 ≡ R / 4 * 256 + y = omega arith in
    let q : cond k 15 0 + 256 * M ≡ M * 256 + cond k 15 0 = omega arith in
    let ih = quarter xs ks b.1 in
    let e = low_bits x R k h in
    ap₂ bit_and p q ∙ and_block 8 (R / 4) M y (cond k 15 0) (omega arith) (mask-small k)
    ∙ ap₂ (λ (s t : ℕ). s * 256 + t) ih e ∙ omega arith

-- eight of them
abbrev pub eight : {A : Type 0} → (ℕ → A) → List A
eight f = f 0 ∷ f 1 ∷ f 2 ∷ f 3 ∷ f 4 ∷ f 5 ∷ f 6 ∷ f 7 ∷ []

all-below : (n : ℕ) (f : ℕ → ℕ) → ((x : ℕ) → x < 8 → f x < n) → Below n (eight f)
all-below n f h =
    let first : (f 0 < n) × (f 1 < n) × (f 2 < n) × (f 3 < n) = (h 0 (omega arith), h 1 (omega arith), h 2 (omega arith), h 3 (omega arith)) in
    let last : (f 4 < n) × (f 5 < n) × (f 6 < n) × (f 7 < n) = (h 4 (omega arith), h 5 (omega arith), h 6 (omega arith), h 7 (omega arith)) in
    search rules

abbrev pub mask_of : (ℕ → Bool) → ℕ
mask_of k = row (masks (eight k))

quarters : (s : ℕ → ℕ) (k : ℕ → Bool) → ((x : ℕ) → s x < 64) → bit_and (in_bytes s / 4) (mask_of k) ≡ in_bytes (λ x. cond (k x) (s x / 4) 0)
unfolding in_bytes
quarters s k h = quarter (eight s) (eight k) (all-below 64 s (λ x l. h x))

-- a row of 24 weights, in three blocks: each place's two neighbours, what falls out at an end coming from the block beside it
module _ (n : ℕ → ℕ) (low : (k : ℕ) → n k ≤ 8) where
  last_byte : in_bytes n / 72057594037927936 ≡ n 7
  unfolding in_bytes
  last_byte = omega (arith, low 0, low 1, low 2, low 3, low 4, low 5, low 6)

  first_byte : in_bytes (λ x. n (16 + x)) % 256 ≡ n 16
  unfolding in_bytes
  first_byte = omega (arith, low 16)

  upwards : in_bytes (λ x. n (8 + x)) % 72057594037927936 ≡ row (n 8 ∷ n 9 ∷ n 10 ∷ n 11 ∷ n 12 ∷ n 13 ∷ n 14 ∷ [])
  unfolding in_bytes
  upwards = omega (arith, low 8, low 9, low 10, low 11, low 12, low 13, low 14)

  downwards : in_bytes (λ x. n (8 + x)) / 256 ≡ row (n 9 ∷ n 10 ∷ n 11 ∷ n 12 ∷ n 13 ∷ n 14 ∷ n 15 ∷ [])
  unfolding in_bytes
  downwards = omega (arith, low 8)

  both : row (n 8 ∷ n 9 ∷ n 10 ∷ n 11 ∷ n 12 ∷ n 13 ∷ n 14 ∷ []) * 256 + n 7
      + (row (n 9 ∷ n 10 ∷ n 11 ∷ n 12 ∷ n 13 ∷ n 14 ∷ n 15 ∷ []) + n 16 * 72057594037927936) ≡ in_bytes (λ x. n (7 + x) + n (9 + x))
  unfolding in_bytes
  both = omega arith

  beside-is : beside_row (in_bytes n) (in_bytes (λ x. n (8 + x))) (in_bytes (λ x. n (16 + x))) ≡ in_bytes (λ x. n (7 + x) + n (9 + x))
  beside-is = rw (last_byte, first_byte, upwards, downwards) both

-- rows added, and a row taken f times
add-rows : (f g : ℕ → ℕ) → in_bytes f + in_bytes g ≡ in_bytes (λ x. f x + g x)
unfolding in_bytes
add-rows f g = omega arith

times-row : (f : ℕ) (g : ℕ → ℕ) → f * in_bytes g ≡ in_bytes (λ x. f * g x)
unfolding in_bytes
times-row f g = omega arith

-- two to each byte
add-twos : (f : ℕ → ℕ) → in_bytes f + 0x0202020202020202 ≡ in_bytes (λ x. f x + 2)
unfolding in_bytes
add-twos f = omega arith

-- f times one row and g times two others, and two to each byte
sum_rows : (f g : ℕ) (h u e : ℕ → ℕ) → f * in_bytes h + g * (in_bytes u + in_bytes e) + 0x0202020202020202 ≡ in_bytes (λ x. f * h x + g * (u x + e x) + 2)
sum_rows f g h u e =
    rw (add-rows u e, times-row f h, times-row g (λ x. u x + e x), add-rows (λ x. f * h x) (λ x. g * (u x + e x)))
    (add-twos (λ x. f * h x + g * (u x + e x)))

-- what is added to the weight at x, where the rule fills it
abbrev pub fill_at : FillRule → (n above below : ℕ → ℕ) → ℕ → ℕ
fill_at rule n above below x = rule.beside * (n (7 + x) + n (9 + x)) + rule.upright * (above x + below x) + 2

-- the row, filled
module _ (rule : FillRule) (k : ℕ → Bool) (n above below : ℕ → ℕ) (few : rule.beside + rule.upright ≤ 2)
    (ln : (i : ℕ) → n i ≤ 8) (la : (i : ℕ) → above i ≤ 8) (lb : (i : ℕ) → below i ≤ 8) where
  small : (x : ℕ) → fill_at rule n above below x < 64
  small x =
      let a : n (7 + x) + n (9 + x) ≤ 16 = omega (arith, ln (7 + x), ln (9 + x)) in
      let b : above x + below x ≤ 16 = omega (arith, la x, lb x) in
      omega (arith, mul-le-mul_left rule.beside a, mul-le-mul_left rule.upright b)

  pub filled_is : {keep : ℕ} → keep ≡ mask_of k
      → filled_row rule keep (in_bytes n) (in_bytes (λ x. n (8 + x))) (in_bytes (λ x. n (16 + x))) (in_bytes above) (in_bytes below)
      ≡ in_bytes (λ x. n (8 + x) + cond (k x) (fill_at rule n above below x / 4) 0)
  unfolding filled_row
  filled_is e =
      rw (beside-is n ln, sum_rows rule.beside rule.upright (λ x. n (7 + x) + n (9 + x)) above below, e)
      (ap (λ (z : ℕ). in_bytes (λ x. n (8 + x)) + z) (quarters (fill_at rule n above below) k small)
      ∙ add-rows (λ x. n (8 + x)) (λ x. cond (k x) (fill_at rule n above below x / 4) 0))

-- byte x of a row
byte-in : (xs : List ℕ) (x : ℕ) → Below 16 xs → row xs / 2 ^ (8 * x) % 16 ≡ get_or xs x 0
byte-in [] x b = rw (zero-div (2 ^ (8 * x)))
byte-in (y ∷ ys) zero b = let h = b.0 in omega arith
byte-in (y ∷ ys) (suc x) b =
    let h = b.0 in
    let e : 8 * suc x ≡ 8 + 8 * x = omega arith in
    let f : row (y ∷ ys) / 256 ≡ row ys = omega arith in
    ap (λ (n : ℕ). row (y ∷ ys) / 2 ^ n % 16) e
    ∙ ap (λ (n : ℕ). n % 16) (sym (shr-shr (row (y ∷ ys)) 8 (8 * x)) ∙ ap (λ (n : ℕ). n / 2 ^ (8 * x)) f) ∙ byte-in ys x b.1

pub byte_at : (g : ℕ → ℕ) (x : ℕ) → ((i : ℕ) → i < 8 → g i ≤ 8) → x < 8 → in_bytes g / 2 ^ (8 * x) % 16 ≡ g x
unfolding in_bytes tab
byte_at g x low h = byte-in (eight g) x (all-below 16 g (λ i l. omega (arith, low i l))) ∙ get_or-tab g 8 x 0 h

-- a row of weights is low
pub low-row : (f : ℕ → ℕ) → ((x : ℕ) → x < 8 → f x ≤ 8) → LowRow (in_bytes f)
unfolding in_bytes
low-row f h =
    let all = all-below 9 f (λ x l. omega (arith, h x l)) in
    record { all = omega arith; rest = omega arith; first = omega arith }
