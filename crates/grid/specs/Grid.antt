-- The grid of blocks, as document 01 says it ("The grid"). Assumes nothing: these are definitions.
-- `two` is true at 2bpp and false at 4bpp; gx and gy are the blocks across and down.
use Rattle.std.specs.Prelude.{◌≡◌, ℕ, zero, suc, ◌+◌, ◌-◌, ◌*◌, ◌/◌, ◌%◌, ◌^◌, ◌<◌, ◌≤◌, min, Bool, true, false, cond, List, ◌==◌, nat_le, nat_lt, slice_index}
use Rattle.facts.specs.Tab.{tab}

-- Half the texels across a block, by which everything that differs with the depth is said.
abbrev pub half : Bool → ℕ
half two = cond two 4 2

-- The texels across a block: 4 at 4bpp, 8 at 2bpp. It has 4 down at either depth.
abbrev pub block_width : Bool → ℕ
block_width two = 2 * half two

-- How many blocks of `size` texels a side has: the side divided, rounded up.
abbrev pub blocks : ℕ → ℕ → ℕ
blocks size side = (side + (size - 1)) / size

-- How often n can be halved before it is below 2, in at most f steps.
unfoldable pub halvings : ℕ → ℕ → ℕ
halvings zero n = zero
halvings (suc f) n = cond (nat_lt n 2) zero (suc (halvings f (n / 2)))

-- The logarithm of n to the base 2, rounded down, and 0 for 0.
unfoldable pub log2 : ℕ → ℕ
log2 n = halvings n n

-- n is a power of two.
abbrev pub Power : ℕ → Type 0
Power n = n ≡ 2 ^ log2 n

-- The same, as a test.
abbrev pub is_power : ℕ → Bool
is_power n = n == 2 ^ log2 n

-- The address of block (x, y) where the smaller side is 2 ^ k. The square of that side is quartered: a quarter's blocks follow one
-- another, x tells the left from the right two, y the upper from the lower. At side 1 the rest of the longer side is left.
unfoldable pub address : ℕ → ℕ → ℕ → ℕ
address zero x y = x + y
address (suc k) x y = 4 * address k (x / 2) (y / 2) + 2 * (x % 2) + y % 2

-- The address of block (x, y) in a grid of gx by gy blocks.
abbrev pub block_address : ℕ → ℕ → ℕ → ℕ → ℕ
block_address gx gy x y = address (log2 (min gx gy)) x y

-- The way back: the column of the block at address z. The rest above the square is x's where the grid is `wide`.
unfoldable pub column : (wide : Bool) → ℕ → ℕ → ℕ
column true zero z = z
column false zero z = zero
column wide (suc k) z = 2 * column wide k (z / 4) + z / 2 % 2

-- And the row.
unfoldable pub row : (wide : Bool) → ℕ → ℕ → ℕ
row true zero z = zero
row false zero z = z
row wide (suc k) z = 2 * row wide k (z / 4) + z % 2

-- The column and the row of the block at address z in a grid of gx by gy blocks.
abbrev pub block_column : ℕ → ℕ → ℕ → ℕ
block_column gx gy z = column (nat_le gy gx) (log2 (min gx gy)) z

abbrev pub block_row : ℕ → ℕ → ℕ → ℕ
block_row gx gy z = row (nat_le gy gx) (log2 (min gx gy)) z

-- What the two functions that compute an address ask: m is the smaller side, a power of two, (x, y) lies above it in one of the
-- two at most, and no number is so large that the address would not fit.
pub record Placed (m x y : ℕ) : Type 0 where
  pub power : Power m
  pub small : m ≤ 65536
  pub small-x : x < 65536
  pub small-y : y < 65536
  pub one-above : min x y < m

-- Addresses are a bijection onto 0 .. n - 1: `block_address` goes there, `block_column` and `block_row` come back.
pub record Bijective (gx gy : ℕ) : Type 0 where
  pub within : (x y : ℕ) → x < gx → y < gy → block_address gx gy x y < gx * gy
  pub same-column : (x y : ℕ) → x < gx → y < gy → block_column gx gy (block_address gx gy x y) ≡ x
  pub same_row : (x y : ℕ) → x < gx → y < gy → block_row gx gy (block_address gx gy x y) ≡ y
  pub column-within : (z : ℕ) → z < gx * gy → block_column gx gy z < gx
  pub row_within : (z : ℕ) → z < gx * gy → block_row gx gy z < gy
  pub same_address : (z : ℕ) → z < gx * gy → block_address gx gy (block_column gx gy z) (block_row gx gy z) ≡ z

-- Each bit of an address, as document 01 has it: with m the smaller side, the log2 m low bits interleaved, y's below x's at each
-- place, and above them the remaining bits of the longer side.
pub record Interleaved (gx gy x y : ℕ) : Type 0 where
  pub bit-of-y : (i : ℕ) → i < log2 (min gx gy) → block_address gx gy x y / 2 ^ (2 * i) % 2 ≡ y / 2 ^ i % 2
  pub bit-of-x : (i : ℕ) → i < log2 (min gx gy) → block_address gx gy x y / 2 ^ (2 * i + 1) % 2 ≡ x / 2 ^ i % 2
  pub rest : block_address gx gy x y / 2 ^ (2 * log2 (min gx gy)) ≡ cond (nat_le gy gx) x y / 2 ^ log2 (min gx gy)

-- The block k of (previous, own, next) = (0, 1, 2) beside block q of g blocks round a torus.
unfoldable pub beside : ℕ → ℕ → ℕ → ℕ
beside g q k = (q + k + g - 1) % g

-- Neighbours are toroidal. With one block across, a block is its own left and right neighbour; likewise down.
pub record Toroidal (g : ℕ) : Type 0 where
  pub before : (q : ℕ) → q + 1 < g → beside g (q + 1) 0 ≡ q
  pub before-first : beside g 0 0 ≡ g - 1
  pub own : (q : ℕ) → q < g → beside g q 1 ≡ q
  pub after : (q : ℕ) → q + 1 < g → beside g q 2 ≡ q + 1
  pub after_last : beside g (g - 1) 2 ≡ 0
  pub alone : g ≡ 1 → (q k : ℕ) → q < g → beside g q k ≡ q

-- The k low bits of v, bit i moved to bit 2i.
unfoldable pub spread_bits : ℕ → ℕ → ℕ
spread_bits zero v = zero
spread_bits (suc k) v = 4 * spread_bits k (v / 2) + v % 2

-- The table of spread bytes: entry b is the byte b, spread.
unfoldable pub spread_table : List ℕ
spread_table = tab (spread_bits 8) 256

-- A number of two bytes, spread by the table: the entry of its low byte, and above it that of its high byte.
abbrev pub spread_by_table : ℕ → ℕ
spread_by_table v = slice_index spread_table (v % 256) + 65536 * slice_index spread_table (v / 256)

-- The address of block (x, y) through the table: with m the smaller side, what x and y are below m, spread, y's below x's; above it,
-- what is left of the longer side.
abbrev pub table_address : ℕ → ℕ → ℕ → ℕ → ℕ
table_address gx gy x y =
    let m = min gx gy in
    2 * spread_by_table (x % m) + spread_by_table (y % m) + m * m * (x / m + y / m)
