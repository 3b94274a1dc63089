-- Khronos's count of blocks and its order of words are document 01's. Assumes nothing.
use Rattle.std.proofs.Common.{◌≡◌, ℕ, zero, suc, ◌+◌, ◌-◌, ◌*◌, ◌/◌, ◌%◌, ◌^◌, ◌<◌, ◌≤◌, min, max, Bool, true, false, cond, eqb, refl, ap, ◌∙◌, ap₂, ⊎_elim}
use Rattle.std.proofs.Common.{mul-le-mul_right, div-one, arith, eqb→eq, pow_mono, eqb-true}
use native.Mathlib.Nat.{pow-succ', zero-div}
use borrow.Author.Tests.{eqb-false}
use Rattle.facts.proofs.Finite.{below}
use Rattle.facts.proofs.Numbers.{lt-or-le, split}
use Rattle.facts.proofs.Powers.{pow-le-cancel, shift}
use Rattle.grid.specs.Grid.{blocks, log2, Power, address, block_address}
use Rattle.grid.proofs.Counts.{exact, clipped, blocks-cover, blocks-tight}
use Rattle.khronos.specs.Agrees.{SameStorage}
use Rattle.khronos.specs.Khronos.{field}
use Rattle.khronos.specs.Storage.{blocks_along, stored_along, total, side_bits, row_place, column_place, word_index}

same_count : (size side : ℕ) → 0 < size → blocks_along size side ≡ blocks size side
same_count size side pos = by (eqb (side % size) 0) refl
  where
    by : (t : Bool) → eqb (side % size) 0 ≡ t → side / size + cond t 0 1 ≡ blocks size side
    by true e = omega (arith, exact size side pos (eqb-true (side % size) 0 e))
    by false e = omega (arith, clipped size side pos (eqb-false (side % size) 0 e))

-- a side shorter than two blocks is stored as one of two blocks; any other as it is, with two or more
same-stored : (size side : ℕ) → 0 < size → stored_along size side ≡ max 2 (blocks size side)
same-stored size side pos = same_count size (max side (2 * size)) pos ∙ ⊎_elim short long (lt-or-le side (2 * size))
  where
    short : side < 2 * size → blocks size (max side (2 * size)) ≡ max 2 (blocks size side)
    short l =
        let longer : max side (2 * size) ≡ 2 * size = omega arith in
        let both : blocks size (2 * size) ≡ 2 = (split size (2 * size + (size - 1)) 2 (size - 1) refl (omega arith)).0 in
        let few : blocks size side ≤ 2 =
        ⊎_elim
        (λ more. absurd (omega (arith, mul-le-mul_right {m = 3} {n = blocks size side} size more, blocks-tight size side pos)))
        (λ few. few)
        (lt-or-le 2 (blocks size side)) in
        ap (blocks size) longer ∙ omega (arith, both, few)

    long : 2 * size ≤ side → blocks size (max side (2 * size)) ≡ max 2 (blocks size side)
    long l =
        let longer : max side (2 * size) ≡ side = omega arith in
        let many : 2 ≤ blocks size side =
        ⊎_elim
        (λ few. absurd (omega (arith, mul-le-mul_right {m = blocks size side} {n = 1} size (omega arith), blocks-cover size side pos)))
        (λ many. many)
        (lt-or-le (blocks size side) 2) in
        ap (blocks size) longer ∙ omega (arith, many)

-- sums of equal terms are equal, and a common factor goes before the sum
total-same : (f g : ℕ → ℕ) (n : ℕ) → ((i : ℕ) → f i ≡ g i) → total f n ≡ total g n
unfolding total
total-same f g zero e = refl
total-same f g (suc n) e = ap₂ (λ (a b : ℕ). a + b) (e 0) (total-same (λ i. f (suc i)) (λ i. g (suc i)) n (λ i. e (suc i)))

total-times : (m : ℕ) (f : ℕ → ℕ) (n : ℕ) → total (λ i. m * f i) n ≡ m * total f n
unfolding total
total-times m f zero = omega arith
total-times m f (suc n) = omega (arith, total-times m (λ i. f (suc i)) n)

-- the bits of the first n places of a row and of a column, each at its place, where these have b and a bits
abbrev placed : ℕ → ℕ → ℕ → ℕ → ℕ → ℕ
placed a b x y i = field y i 1 * 2 ^ row_place a i + field x i 1 * 2 ^ column_place b i

-- the lowest bits, and the others of half the place
first-bits : (a b x y : ℕ) → placed (suc a) (suc b) x y 0 ≡ 2 * (x % 2) + y % 2
first-bits a b x y =
    let row : row_place (suc a) 0 ≡ 0 = omega arith in
    let column : column_place (suc b) 0 ≡ 1 = omega arith in
    rw (row, column, div-one x, div-one y) (omega arith)

later-bits : (a b x y i : ℕ) → placed (suc a) (suc b) x y (suc i) ≡ 4 * placed a b (x / 2) (y / 2) i
later-bits a b x y i =
    let row : row_place (suc a) (suc i) ≡ suc (suc (row_place a i)) = omega arith in
    let column : column_place (suc b) (suc i) ≡ suc (suc (column_place b i)) = omega arith in
    rw (row, column, ← shift 2 x i, ← shift 2 y i, four-times (row_place a i), four-times (column_place b i)) (omega arith)
  where
    four-times : (k : ℕ) → 2 ^ suc (suc k) ≡ 4 * 2 ^ k
    four-times k = rw (pow-succ' 2 (suc k), pow-succ' 2 k) (omega arith)

-- a number is the sum of its bits
bits_of : (n v : ℕ) → v < 2 ^ n → total (λ i. field v i 1 * 2 ^ i) n ≡ v
unfolding total
bits_of zero v h = omega arith
bits_of (suc n) v h =
    let half : v / 2 < 2 ^ n = omega (arith, pow-succ' 2 n) in
    let upper : ℕ → ℕ = λ i. field (v / 2) i 1 * 2 ^ i in
    let later : (i : ℕ) → field v (suc i) 1 * 2 ^ suc i ≡ 2 * upper i = λ i. rw (← shift 2 v i, pow-succ' 2 i) (omega arith) in
    rw (total-same (λ i. field v (suc i) 1 * 2 ^ suc i) (λ i. 2 * upper i) n later, total-times 2 upper n, bits_of n (v / 2) half, div-one v)
    (omega arith)

-- a side of one block has no bits, and so the other's stand at their own places
row-alone : (n b y : ℕ) → b ≤ n → y < 2 ^ b → total (placed 0 b 0 y) n ≡ y
row-alone n b y hb hy =
    total-same (placed 0 b 0 y) (λ i. field y i 1 * 2 ^ i) n term ∙ bits_of n y (omega (arith, pow_mono hb))
  where
    term : (i : ℕ) → placed 0 b 0 y i ≡ field y i 1 * 2 ^ i
    term i =
        let place : row_place 0 i ≡ i = omega arith in
        rw (place, zero-div (2 ^ i)) (omega arith)

column-alone : (n a x : ℕ) → a ≤ n → x < 2 ^ a → total (placed a 0 x 0) n ≡ x
column-alone n a x ha hx =
    total-same (placed a 0 x 0) (λ i. field x i 1 * 2 ^ i) n term ∙ bits_of n x (omega (arith, pow_mono ha))
  where
    term : (i : ℕ) → placed a 0 x 0 i ≡ field x i 1 * 2 ^ i
    term i =
        let place : column_place 0 i ≡ i = omega arith in
        rw (place, zero-div (2 ^ i)) (omega arith)

-- so the sum is the address, where no number has more than n bits
sum-of-bits : (n a b x y : ℕ) → a ≤ n → b ≤ n → x < 2 ^ a → y < 2 ^ b → total (placed a b x y) n ≡ address (min a b) x y
unfolding address total
sum-of-bits n zero b x y ha hb hx hy =
    let none : x ≡ 0 = omega arith in
    let low : min 0 b ≡ 0 = omega arith in
    rw (none, low) (row-alone n b y hb hy ∙ omega arith)
sum-of-bits n (suc a) zero x y ha hb hx hy =
    let none : y ≡ 0 = omega arith in
    let low : min (suc a) 0 ≡ 0 = omega arith in
    rw (none, low) (column-alone n (suc a) x ha hx ∙ omega arith)
sum-of-bits zero (suc a) (suc b) x y ha hb hx hy = absurd (omega arith)
sum-of-bits (suc n) (suc a) (suc b) x y ha hb hx hy =
    let low : min (suc a) (suc b) ≡ suc (min a b) = omega arith in
    let half-x : x / 2 < 2 ^ a = omega (arith, pow-succ' 2 a) in
    let half-y : y / 2 < 2 ^ b = omega (arith, pow-succ' 2 b) in
    rw low
    (omega (
      arith,
      first-bits a b x y,
      total-same (λ i. placed (suc a) (suc b) x y (suc i)) (λ i. 4 * placed a b (x / 2) (y / 2) i) n (later-bits a b x y),
      total-times 4 (placed a b (x / 2) (y / 2)) n,
      sum-of-bits n a b (x / 2) (y / 2) (omega arith) (omega arith) half-x half-y,
    ))

-- a side that is a power of two has as many bits as its exponent says
bits-of-power : (k : ℕ) → k ≤ 16 → side_bits (2 ^ k) ≡ k
unfolding side_bits total
bits-of-power k h = eqb→eq _ k (below (λ k. eqb (side_bits (2 ^ k)) k) 17 tt k (omega arith))

same-order : (gx gy x y : ℕ) → Power gx → Power gy → gx ≤ 65536 → gy ≤ 65536 → x < gx → y < gy → word_index gx gy x y ≡ block_address gx gy x y
unfolding word_index
same-order gx gy x y px py lx ly hx hy =
    let few-across : log2 gx ≤ 16 = pow-le-cancel {b = 16} (omega (arith, px, lx)) in
    let few-down : log2 gy ≤ 16 = pow-le-cancel {b = 16} (omega (arith, py, ly)) in
    let across : side_bits gx ≡ log2 gx = ap side_bits px ∙ bits-of-power (log2 gx) few-across in
    let down : side_bits gy ≡ log2 gy = ap side_bits py ∙ bits-of-power (log2 gy) few-down in
    rw (across, down)
    (sum-of-bits 16 (log2 gx) (log2 gy) x y few-across few-down (omega (arith, px, hx)) (omega (arith, py, hy))
    ∙ ap (λ (k : ℕ). address k x y) (lower gx gy px py))
  where
    lower : (gx gy : ℕ) → Power gx → Power gy → min (log2 gx) (log2 gy) ≡ log2 (min gx gy)
    lower gx gy px py =
        ⊎_elim
        (λ less.
        let e : min gx gy ≡ gx = omega arith in
        let le : log2 gx ≤ log2 gy = pow-le-cancel (omega (arith, px, py)) in
        rw e (omega arith))
        (λ more.
        let e : min gx gy ≡ gy = omega arith in
        let le : log2 gy ≤ log2 gx = pow-le-cancel (omega (arith, px, py)) in
        rw e (omega arith))
        (lt-or-le gx gy)

pub same-storage : SameStorage
same-storage = record { count = same_count; stored = same-stored; order = same-order }
