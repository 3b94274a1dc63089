-- The block order as it is taught: quarter the square, then quarter the quarter. Assumes nothing: these are definitions.
use Rattle.std.specs.Prelude.{◌≡◌, ℕ, suc, ◌+◌, ◌*◌, ◌^◌, ◌<◌, ◌≤◌}
use Rattle.grid.specs.Grid.{block_address, block_column, block_row}

-- The address of block (x, y) in a square grid of side 2 ^ k.
abbrev pub in_square : ℕ → ℕ → ℕ → ℕ
in_square k x y = block_address (2 ^ k) (2 ^ k) x y

-- n is one of `count` numbers from `start` on.
pub record Among (start count n : ℕ) : Type 0 where
  pub from : start ≤ n
  pub below : n < start + count

-- A quarter of a square grid of side 2 ^ (k + 1), from block (left, top) on. Its addresses are its own half-size addresses plus its start;
-- each of its blocks has one of the 4 ^ k addresses from that start on, and each of these is a block's of this quarter.
pub record Quarter (k left top start : ℕ) : Type 0 where
  pub half-size : (x y : ℕ) → x < 2 ^ k → y < 2 ^ k → in_square (suc k) (left + x) (top + y) ≡ start + in_square k x y
  pub within : (x y : ℕ) → Among left (2 ^ k) x → Among top (2 ^ k) y → Among start (4 ^ k) (in_square (suc k) x y)
  pub column-within : (z : ℕ) → Among start (4 ^ k) z → Among left (2 ^ k) (block_column (2 ^ suc k) (2 ^ suc k) z)
  pub row_within : (z : ℕ) → Among start (4 ^ k) z → Among top (2 ^ k) (block_row (2 ^ suc k) (2 ^ suc k) z)

-- The four quarters hold the addresses in this order: 0 .. 4 ^ k - 1, 4 ^ k .. 2 * 4 ^ k - 1, and so on.
pub record Quartered (k : ℕ) : Type 0 where
  pub left-upper : Quarter k 0 0 0
  pub left-lower : Quarter k 0 (2 ^ k) (4 ^ k)
  pub right-upper : Quarter k (2 ^ k) 0 (2 * 4 ^ k)
  pub right-lower : Quarter k (2 ^ k) (2 ^ k) (3 * 4 ^ k)
