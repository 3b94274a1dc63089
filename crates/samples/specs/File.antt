-- Sample files. Assumes nothing: these are definitions.
use Rattle.std.specs.Prelude.{cond, List, ℕ, ◌+◌, ◌*◌, ◌/◌, ◌%◌, ltb, length, get_or, set}
use Rattle.files.specs.Fields.{byte_of}

-- Byte k of a sample file: the header's, as far as that reaches, and behind it a byte by the rule (37k + 11) % 251.
abbrev pub file_byte : (header : List ℕ) → ℕ → ℕ
file_byte header k = cond (ltb (k / 4) (length header)) (byte_of (get_or header (k / 4) 0) (k % 4)) ((37 * k + 11) % 251)

-- The bytes `old` with the four of a number from place `at` on, as far as there are places.
abbrev pub with_u32 : (at v : ℕ) → (old : List ℕ) → List ℕ
with_u32 at v old = set (set (set (set old at (byte_of v 0)) (at + 1) (byte_of v 1)) (at + 2) (byte_of v 2)) (at + 3) (byte_of v 3)
