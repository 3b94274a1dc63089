-- When the program's output stands as it is, and when it is told in short. Assumes nothing.
use Rattle.std.proofs.Common.{◌≡◌, refl, ℕ, ◌<◌, ◌≤◌, length, Bool, true, false, List, lt-ltb, le-ltb}
use Rattle.std.specs.Str.{IsUtf8, is_utf8}
use Rattle.std.proofs.lemmas.Str.{IsUtf8-from_is_utf8, is_utf8-from_IsUtf8}
use Rattle.replayed.specs.Texts.{told_in_short, output_text}

pub a-line : (bytes : List ℕ) → IsUtf8 bytes → length bytes < 12 → output_text bytes ≡ bytes
a-line bytes text short = simp (is_utf8-from_IsUtf8 bytes text, lt-ltb (length bytes) 12 short)

pub no-line : (bytes : List ℕ) → (IsUtf8 bytes → 12 ≤ length bytes) → output_text bytes ≡ told_in_short bytes
no-line bytes long = by (is_utf8 bytes) refl
  where
    by : (b : Bool) → is_utf8 bytes ≡ b → output_text bytes ≡ told_in_short bytes
    by false e = simp e
    by true e = simp (e, le-ltb (length bytes) 12 (long (IsUtf8-from_is_utf8 bytes e)))
