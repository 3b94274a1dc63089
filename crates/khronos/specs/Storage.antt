-- Where the words of a picture are stored, as the Khronos description gives it: how many blocks there are, and in which order.
-- Nothing here is shared with document 01's definitions, so that both can be compared. Assumes nothing: these are definitions.
use Rattle.std.specs.Prelude.{Bool, cond, List, ℕ, zero, suc, ◌+◌, ◌*◌, ◌/◌, ◌%◌, ◌^◌, min, max, eqb, ltb, drop}
use Rattle.khronos.specs.Khronos.{Color, word64, field, khronos_texel}

-- The blocks of a side: those that are full, and one more where texels are left over.
abbrev pub blocks_along : ℕ → ℕ → ℕ
blocks_along size side = side / size + cond (eqb (side % size) 0) 0 1

-- The blocks of a side as the published extension IMG_texture_compression_pvrtc has it stored: as if it had the texels of two blocks at least.
abbrev pub stored_along : ℕ → ℕ → ℕ
stored_along size side = blocks_along size (max side (2 * size))

-- f 0 + f 1 + .. + f (n - 1).
unfoldable pub total : (ℕ → ℕ) → ℕ → ℕ
total f zero = 0
total f (suc n) = f 0 + total (λ i. f (suc i)) n

-- How many bits tell the blocks of a side of g: bit i is one of them where 2 ^ i is below g. No side has more than 2 ^ 16 blocks.
unfoldable pub side_bits : ℕ → ℕ
side_bits g = total (λ i. cond (ltb (2 ^ i) g) 1 0) 16

-- Words are in Morton order: a bit of the row, a bit of the column, the next of the row, and so on from the low end; where one of them
-- has no more bits, those of the other follow. So bit i of the row stands above i bits of the row and as many of the column, or all it has,
abbrev pub row_place : (column_bits : ℕ) → ℕ → ℕ
row_place column_bits i = i + min i column_bits

-- and bit i of the column above i bits of the column and one more of the row, or all it has.
abbrev pub column_place : (row_bits : ℕ) → ℕ → ℕ
column_place row_bits i = i + min (i + 1) row_bits

-- The number of the word in a column and a row of a grid of gx by gy: each bit of either at its place.
unfoldable pub word_index : ℕ → ℕ → ℕ → ℕ → ℕ
word_index gx gy column row =
    total (λ i. field row i 1 * 2 ^ row_place (side_bits gx) i + field column i 1 * 2 ^ column_place (side_bits gy) i) 16

-- The bytes of a run from the word in a column and a row on.
abbrev pub word_bytes_at : ℕ → ℕ → List ℕ → ℕ → ℕ → List ℕ
word_bytes_at gx gy d column row = drop (8 * word_index gx gy column row) d

-- The texel (x, y) of a picture of which gx by gy blocks are stored, as the bytes d.
abbrev pub khronos_picture : Bool → (gx gy : ℕ) → List ℕ → ℕ → ℕ → Color
khronos_picture two gx gy d x y = khronos_texel two gx gy (λ column row. word64 (word_bytes_at gx gy d column row)) x y
