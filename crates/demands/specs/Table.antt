-- The table of spread bytes, over every accepted picture. Assumes nothing: these are definitions.
use Rattle.std.specs.Prelude.{◌≡◌, List, ℕ, ◌<◌, min}
use Rattle.grid.specs.Grid.{block_address, table_address, Placed, Interleaved}
use Rattle.pvrtc.specs.Calls.{refusal}
use Rattle.pvrtc.specs.Picture.{grid_of}
use Rattle.pvrtc.specs.declared.Call.{Call}
use Rattle.pvrtc.specs.declared.Picture.{Picture}

-- A place of a grid: both ways to its address may be asked, and find the same one, which has each bit where document 01 has it.
pub record SameAddress (gx gy x y : ℕ) : Type 0 where
  pub asked : Placed (min gx gy) x y
  pub agrees : table_address gx gy x y ≡ block_address gx gy x y
  pub bit-by-bit : Interleaved gx gy x y

-- The table agrees with the bit-by-bit address at every place of every accepted grid.
abbrev pub TableAgrees : Type 0
TableAgrees =
    (p : Picture) (c : Call) (d : List ℕ) → refusal p c d ≡ 0 → (x y : ℕ)
    → let g = grid_of p in x < g.across → y < g.down → SameAddress g.across g.down x y
