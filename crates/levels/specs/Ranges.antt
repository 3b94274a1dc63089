-- Where levels stand, and how many there may be. Assumes nothing: these are definitions.
use Rattle.std.specs.Prelude.{◌≡◌, true, false, List, ℕ, suc, ◌+◌, ◌/◌, ◌^◌, ◌≤◌, ◌<◌, max}
use Rattle.pvr.specs.Header as pvr
use Rattle.ktx.specs.Header as ktx
use Rattle.ktx.specs.Header.{is_ktx}
use Rattle.levels.specs.declared.Levels.{Levels}
use Rattle.levels.specs.Levels.{levels_in, halved, need_at, size_word_bytes, start_at}
use Rattle.levels.specs.Refusals.{most_levels}

-- Where level k ends: behind the bytes that it needs.
abbrev pub end_at : Levels → ℕ → ℕ
end_at l k = start_at l k + need_at l k

-- The byte ranges of levels.
pub record Ranges (l : Levels) : Type 0 where
  -- They are in order, and no two share a byte: a level ends before the size word of every later one.
  pub apart : (i j : ℕ) → i < j → end_at l i + size_word_bytes l.sized ≤ start_at l j
  -- Where there are no size words, they join without a gap.
  pub joined : l.sized ≡ false → (k : ℕ) → start_at l (suc k) ≡ end_at l k
  -- Where there are, the size word alone stands between: needs are multiples of eight, so that there is no padding.
  pub spaced : l.sized ≡ true → (k : ℕ) → start_at l (suc k) ≡ end_at l k + 4

-- The levels of a PVR file have no size words. The first is at the payload offset, and each lies past the header and the metadata.
pub record PvrRanges (file : List ℕ) : Type 0 where
  pub unsized : (levels_in file).sized ≡ false
  pub first : start_at (levels_in file) 0 ≡ pvr.payload_offset file
  pub past : (k : ℕ) → pvr.payload_offset file ≤ start_at (levels_in file) k

-- Those of a KTX file have them. The first is where its data is, and each lies past the header, the key/value bytes and its size word.
pub record KtxRanges (file : List ℕ) : Type 0 where
  pub sized : (levels_in file).sized ≡ true
  pub first : start_at (levels_in file) 0 ≡ ktx.payload_offset file
  pub past : (k : ℕ) → ktx.payload_offset file ≤ start_at (levels_in file) k

-- Of every file.
pub record FileRanges (file : List ℕ) : Type 0 where
  pub ranges : Ranges (levels_in file)
  pub of-pvr : is_ktx file ≡ false → PvrRanges file
  pub of-ktx : is_ktx file ≡ true → KtxRanges file

-- Halving step by step is dividing once, never below 1.
abbrev pub Halving : Type 0
Halving = (k side : ℕ) → 0 < side → halved k side ≡ max 1 (side / 2 ^ k)

-- Level k is 1 × 1.
pub record IsOne (l : Levels) (k : ℕ) : Type 0 where
  pub wide : halved k l.width ≡ 1
  pub high : halved k l.height ≡ 1

-- How many levels there may be, where no side is 0: the last allowed one is 1 × 1, and no earlier one is.
pub record Allowed (l : Levels) : Type 0 where
  pub last : (k : ℕ) → suc k ≡ most_levels l → IsOne l k
  pub none-earlier : (k : ℕ) → suc k < most_levels l → IsOne l k → ⊥

-- Where no side is above 65,536 there are at most 17, and none of these ends past 2^40, wherever a header lets them start: no sum wraps.
pub record Reckoned (l : Levels) : Type 0 where
  pub few : most_levels l ≤ 17
  pub fits : (k : ℕ) → k < most_levels l → end_at l k ≤ 1099511627776
