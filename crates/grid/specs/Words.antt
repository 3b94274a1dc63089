-- Where the words of a grid of blocks stand in a run of bytes. Assumes nothing: these are definitions.
use Rattle.std.specs.Prelude.{ℕ, ◌*◌, ◌<◌, ◌≤◌}
use Rattle.grid.specs.declared.Grid.{Grid}
use Rattle.grid.specs.Grid.{Power}

-- The bytes of a grid's words: eight for each block.
abbrev pub word_bytes : Grid → ℕ
word_bytes g = 8 * (g.across * g.down)

-- A grid whose sides are powers of two, up to 65,536, and whose words stand in a run of `len` bytes.
pub record Stands (g : Grid) (len : ℕ) : Type 0 where
  pub power-across : Power g.across
  pub power-down : Power g.down
  pub small-across : g.across ≤ 65536
  pub small-down : g.down ≤ 65536
  pub enough : word_bytes g ≤ len

-- Block (bx, by) is one of the grid's.
pub record InGrid (g : Grid) (bx by : ℕ) : Type 0 where
  pub across : bx < g.across
  pub down : by < g.down
