-- A file's little-endian numbers and its first bytes, and how a header's values are said. Assumes nothing: these are definitions.
-- `file` is the list of the file's bytes; a byte past its end counts as 0.
use Rattle.std.specs.Prelude.{Bool, true, false, ◌&&◌, cond, List, [], ◌∷◌, ℕ, ◌+◌, ◌*◌, ◌/◌, ◌%◌, ◌^◌, eqb, get_or}

-- The four bytes from place `at` on, little-endian.
unfoldable pub u32_at : List ℕ → ℕ → ℕ
u32_at file at =
    get_or file at 0 + 256 * get_or file (at + 1) 0 + 65536 * get_or file (at + 2) 0 + 16777216 * get_or file (at + 3) 0

-- The eight bytes from place `at` on, little-endian.
abbrev pub u64_at : List ℕ → ℕ → ℕ
u64_at file at = u32_at file at + 4294967296 * u32_at file (at + 4)

-- Byte k of a number, the lowest first.
abbrev pub byte_of : ℕ → ℕ → ℕ
byte_of v k = v / 256 ^ k % 256

-- Whether a file's first bytes are these.
unfoldable pub starts_with : List ℕ → List ℕ → Bool
starts_with file [] = true
starts_with [] (b ∷ l) = false
starts_with (a ∷ file) (b ∷ l) = eqb a b && starts_with file l

-- The bits of a texel, at 2bpp if `two`.
abbrev pub bits_of : (two : Bool) → ℕ
bits_of two = cond two 2 4

-- A value where no refusal's number is said, and 0 where one is.
abbrev pub unless_refused : (refusal value : ℕ) → ℕ
unless_refused refusal value = cond (eqb refusal 0) value 0
