-- The four quarters of a square grid, and the addresses that each of them holds. Assumes nothing.
use Rattle.std.proofs.Common.{◌≡◌, ℕ, zero, suc, ◌+◌, ◌-◌, ◌*◌, ◌/◌, ◌%◌, ◌^◌, ◌<◌, min, sym, refl, ap, ◌∙◌, ap₂, mul-le-mul_right, arith}
use native.Mathlib.Nat.{pow-succ'}
use Rattle.facts.proofs.Powers.{square}
use Rattle.grid.specs.Grid.{log2, address, block_column, block_row, Bijective}
use Rattle.grid.specs.Quarters.{in_square, Among, Quarter, Quartered}
use Rattle.grid.proofs.Onto.{bijective}
use Rattle.grid.proofs.Powers.{log2-pow, power-of}

in-square : (k x y : ℕ) → in_square k x y ≡ address k x y
in-square k x y =
    let side : min (2 ^ k) (2 ^ k) ≡ 2 ^ k = omega arith in
    ap (λ (i : ℕ). address i x y) (ap log2 side ∙ log2-pow k)

bijective-square : (k : ℕ) → Bijective (2 ^ k) (2 ^ k)
bijective-square k = bijective (2 ^ k) (2 ^ k) (power-of k (2 ^ k) refl) (power-of k (2 ^ k) refl)

-- halving a place keeps the bit that tells its quarter, and its low bit is that of its place in the quarter
half_of : (a k v : ℕ) → (a * 2 ^ suc k + v) / 2 ≡ a * 2 ^ k + v / 2
half_of a k v = rw (pow-succ' 2 k) (omega arith)

parity-of : (a k v : ℕ) → (a * 2 ^ suc k + v) % 2 ≡ v % 2
parity-of a k v = rw (pow-succ' 2 k) (omega arith)

-- the high bits of x and y, a and b, tell the quarter, and the others a block of it
module _ (a b : ℕ) (a-bit : a < 2) (b_bit : b < 2) where
  high_bits : (k x y : ℕ) → x < 2 ^ k → y < 2 ^ k
      → address (suc k) (a * 2 ^ k + x) (b * 2 ^ k + y) ≡ (2 * a + b) * 4 ^ k + address k x y
  unfolding address
  high_bits zero x y hx hy = omega arith
  high_bits (suc k) x y hx hy =
      rw (half_of a k x, half_of b k y, parity-of a k x, parity-of b k y, high_bits k (x / 2) (y / 2) (omega arith) (omega arith), pow-succ' 4 k)
      (omega arith)

  module _ (k : ℕ) {left top start : ℕ} (is-left : left ≡ a * 2 ^ k) (is-top : top ≡ b * 2 ^ k) (is-start : start ≡ (2 * a + b) * 4 ^ k) where
    half-size : (x y : ℕ) → x < 2 ^ k → y < 2 ^ k → in_square (suc k) (left + x) (top + y) ≡ start + in_square k x y
    half-size x y hx hy =
        rw (is-left, is-top, is-start, in-square (suc k) (a * 2 ^ k + x) (b * 2 ^ k + y), in-square k x y) (high_bits k x y hx hy)

    within : (x y : ℕ) → Among left (2 ^ k) x → Among top (2 ^ k) y → Among start (4 ^ k) (in_square (suc k) x y)
    within x y in-x in-y =
        let x' : ℕ = x - left in
        let y' : ℕ = y - top in
        let e : in_square (suc k) x y ≡ start + in_square k x' y' =
        (let ex : x ≡ left + x' = omega arith in
        let ey : y ≡ top + y' = omega arith in
        ap₂ (in_square (suc k)) ex ey ∙ half-size x' y' (omega arith) (omega arith)) in
        let small : in_square k x' y' < 2 ^ k * 2 ^ k = (bijective-square k).within x' y' (omega arith) (omega arith) in
        record { from = omega arith; below = omega (arith, square k) }

    -- the block at address z is the quarter's own block at address z - start
    back : (z : ℕ) → Among start (4 ^ k) z
        → Among left (2 ^ k) (block_column (2 ^ suc k) (2 ^ suc k) z) × Among top (2 ^ k) (block_row (2 ^ suc k) (2 ^ suc k) z)
    back z in-z =
        let half = bijective-square k in
        let whole = bijective-square (suc k) in
        let small : z - start < 2 ^ k * 2 ^ k = omega (arith, square k) in
        let x : ℕ = block_column (2 ^ k) (2 ^ k) (z - start) in
        let y : ℕ = block_row (2 ^ k) (2 ^ k) (z - start) in
        let hx : x < 2 ^ k = half.column-within (z - start) small in
        let hy : y < 2 ^ k = half.row_within (z - start) small in
        let in-x : left + x < 2 ^ suc k = omega (arith, mul-le-mul_right (2 ^ k) a-bit) in
        let in-y : top + y < 2 ^ suc k = omega (arith, mul-le-mul_right (2 ^ k) b_bit) in
        let at-z : in_square (suc k) (left + x) (top + y) ≡ z = half-size x y hx hy ∙ omega (arith, half.same_address (z - start) small) in
        let column : block_column (2 ^ suc k) (2 ^ suc k) z ≡ left + x =
        ap (block_column (2 ^ suc k) (2 ^ suc k)) (sym at-z) ∙ whole.same-column (left + x) (top + y) in-x in-y in
        let row : block_row (2 ^ suc k) (2 ^ suc k) z ≡ top + y =
        ap (block_row (2 ^ suc k) (2 ^ suc k)) (sym at-z) ∙ whole.same_row (left + x) (top + y) in-x in-y in
        (record { from = omega arith; below = omega arith }, record { from = omega arith; below = omega arith })

    quarter : Quarter k left top start
    quarter =
        record {
          half-size = half-size;
          within = within;
          column-within = λ z in-z. (back z in-z).0;
          row_within = λ z in-z. (back z in-z).1;
        }

pub quartered : (k : ℕ) → Quartered k
quartered k =
    record {
      left-upper = quarter 0 0 (omega arith) (omega arith) k (omega arith) (omega arith) (omega arith);
      left-lower = quarter 0 1 (omega arith) (omega arith) k (omega arith) (omega arith) (omega arith);
      right-upper = quarter 1 0 (omega arith) (omega arith) k (omega arith) (omega arith) (omega arith);
      right-lower = quarter 1 1 (omega arith) (omega arith) k (omega arith) (omega arith) (omega arith);
    }
