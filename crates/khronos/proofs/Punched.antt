-- The texels that are punched through are those that a word's flag says. Assumes nothing.
use Rattle.std.proofs.Common.{◌≡◌, ℕ, ◌+◌, ◌*◌, ◌%◌, ◌^◌, Bool, true, false, cond, eqb, List, refl, arith}
use native.Mathlib.Nat.{zero-div}
use Rattle.grid.specs.Grid.{half}
use Rattle.word.specs.Word.{modulation, mode, punch4bpp, word_of}
use Rattle.word.proofs.Bounds.{never-punched, punch-bit}
use Rattle.texel.specs.Texel.{punched}
use Rattle.khronos.specs.Agrees.{Bytes}
use Rattle.khronos.specs.Khronos.{word64, punch_through}
use Rattle.khronos.proofs.Fields.{parts, is-mode, is-modulation}

-- a bit that a test has set
is_set : (t : Bool) → eqb (cond t 1 0) 1 ≡ t
is_set true = refl
is_set false = refl

pub is-punched : (two : Bool) (d : List ℕ) → Bytes d → (x y : ℕ)
    → punched (half two) (word_of two d) (x % (2 * half two)) (y % 4) ≡ punch_through two (word64 d) x y
unfolding punch_through punch4bpp
is-punched true d l x y = rw (never-punched d, zero-div (2 ^ (8 * (y % 4) + x % 8)))
is-punched false d l x y =
    rw (
      punch-bit d (4 * (y % 4) + x % 4) (omega arith),
      is_set (punch4bpp (mode d) (modulation d) (4 * (y % 4) + x % 4)),
      is-mode (parts d l),
      is-modulation (parts d l),
    )
