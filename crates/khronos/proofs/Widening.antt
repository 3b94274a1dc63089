-- A channel that was made large has the same 8 bits in both forms. Assumes nothing.
use Rattle.std.proofs.Common.{◌≡◌, ℕ, ◌*◌, Bool, true, false, arith}
use Rattle.grid.specs.Grid.{half}
use Rattle.texel.specs.Texel.{scale_color, scale_alpha}
use Rattle.khronos.specs.Khronos.{five→eight, four→eight}

pub is-eight : (two : Bool) (s : ℕ) → scale_color (half two) s ≡ five→eight (8 * half two) s
unfolding scale_color five→eight
is-eight true s = omega arith
is-eight false s = omega arith

pub is-eight-alpha : (two : Bool) (s : ℕ) → scale_alpha (half two) s ≡ four→eight (8 * half two) s
unfolding scale_alpha four→eight
is-eight-alpha true s = omega arith
is-eight-alpha false s = omega arith
