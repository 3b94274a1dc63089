-- What of a file has no effect on how its header is read. Assumes nothing: these are definitions.
use Rattle.std.specs.Prelude.{◌≡◌, Bool, false, ◌&&◌, ◌||◌, List, ℕ, ◌<◌, ltb, leb, get_or}
use Rattle.pvr.specs.Header.{header_size, short_header, unknown_flags}

-- Colour space and channel type have no effect: places 16 to 19 and 20 to 23.
abbrev pub has_no_effect : ℕ → Bool
has_no_effect i = leb 16 i && ltb i 20 || leb 20 i && ltb i 24

-- The flags stand at places 4 to 7. That they are known has an effect, and not which they are (document 02, W7).
abbrev pub is_flags : ℕ → Bool
is_flags i = leb 4 i && ltb i 8

-- A place where two files may differ.
abbrev pub may_differ : ℕ → Bool
may_differ i = is_flags i || has_no_effect i

-- Two files with the same header but for those bytes, whatever follows it: both have fewer than 52 bytes, or neither has, and both have known flags,
-- or neither has.
pub record SameHeader (f g : List ℕ) : Type 0 where
  pub short : short_header f ≡ short_header g
  pub flags : unknown_flags f ≡ unknown_flags g
  pub bytes : (i : ℕ) → i < header_size → may_differ i ≡ false → get_or f i 0 ≡ get_or g i 0
