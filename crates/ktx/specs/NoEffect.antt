-- What of a file has no effect on how it is read. Assumes nothing: these are definitions.
use Rattle.std.specs.Prelude.{◌≡◌, Bool, false, ◌&&◌, ◌||◌, List, ℕ, ◌<◌, ltb, leb, length, get_or}
use Rattle.ktx.specs.Header.{header_size, size_place, size_word_of, short_header, cut_short}

-- Of the fields, type size and base format have no effect at all: places 20 to 23 and 32 to 35.
abbrev pub has_no_effect : ℕ → Bool
has_no_effect i = leb 20 i && ltb i 24 || leb 32 i && ltb i 36

-- Nor have the levels, at 56 to 59, on how level 0 is read.
abbrev pub is_ignored : ℕ → Bool
is_ignored i = has_no_effect i || leb 56 i && ltb i 60

-- The key/value bytes stand between the header and the size word.
abbrev pub is_key_value : List ℕ → ℕ → Bool
is_key_value file i = leb header_size i && ltb i (size_place file)

-- Two files that differ in these alone.
pub record SameButIgnored (f g : List ℕ) : Type 0 where
  pub length-same : length f ≡ length g
  pub bytes : (i : ℕ) → is_ignored i ≡ false → is_key_value f i ≡ false → get_or f i 0 ≡ get_or g i 0

-- Two files with the same fields but for the ignored ones: both have fewer than 64 bytes, or neither has.
pub record SameFields (f g : List ℕ) : Type 0 where
  pub short : short_header f ≡ short_header g
  pub bytes : (i : ℕ) → i < header_size → is_ignored i ≡ false → get_or f i 0 ≡ get_or g i 0

-- Two files with the same header: the same fields, both or neither cut short, and the same size word.
pub record SameHeader (f g : List ℕ) : Type 0 where
  pub fields : SameFields f g
  pub cut : cut_short f ≡ cut_short g
  pub size : size_word_of f ≡ size_word_of g
