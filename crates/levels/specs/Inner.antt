-- What the functions inside ask and promise one another. Assumes nothing: these are definitions.
use Rattle.std.specs.Prelude.{◌≡◌, Bool, false, cond, List, ℕ, ◌+◌, ◌≤◌, ◌<◌, eqb, length, drop, Result, Ok, Err}
use Rattle.facts.specs.Checks.{Check, first_of, number_said}
use Rattle.paint.specs.Sheet.{on_sheet}
use Rattle.pvr.specs.Header as pvr
use Rattle.pixel.specs.declared.ChannelOrder.{ChannelOrder}
use Rattle.pixel.specs.declared.ChannelOrder.TheVariants.{BlueFirst}
use Rattle.pvrtc.specs.Calls.{refusal}
use Rattle.pvrtc.specs.Picture.{picture, in_order, sheet_of, picture_texel}
use Rattle.pvrtc.specs.Refusals.{need}
use Rattle.pvrtc.specs.declared.Call.TheVariants.{Block}
use Rattle.pvrtc.specs.declared.GridMode.TheVariants.{Stored}
use Rattle.pvrtc.specs.declared.Picture.{Picture}
use Rattle.levels.specs.declared.Level.{Level}
use Rattle.levels.specs.declared.Levels.{Levels}
use Rattle.levels.specs.declared.Refusal.{Refusal}
use Rattle.levels.specs.Levels.{pvr_levels, ktx_levels, levels_in, halved_once, size_word_bytes, taken_by}
use Rattle.levels.specs.Refusals.{ktx_header_checks, header_checks, number_of, decoded_number}

-- No levels: all of it 0.
abbrev pub no_levels : Levels
no_levels = record { width = 0; height = 0; is2bpp = false; count = 0; start = 0; sized = false }

-- The number that a header says: 0 for none.
abbrev pub found_number : Result Levels Refusal → ℕ
found_number = number_said number_of

-- The levels that it gives: none where it refuses.
abbrev pub found_levels : Result Levels Refusal → Levels
found_levels (Ok l) = l
found_levels (Err f) = no_levels

-- Finding the levels l behind a header with these checks: its number, and where that is 0 the levels. They start below 2^32 + 64.
pub record FoundBehind (checks : List Check) (l : Levels) (r : Result Levels Refusal) : Type 0 where
  pub number : found_number r ≡ first_of checks
  pub levels : found_levels r ≡ cond (eqb (first_of checks) 0) l no_levels
  pub low : (found_levels r).start < 4294967360

-- Finding those of a PVR file, of a KTX file, and of a file of either kind.
abbrev pub PvrFound : List ℕ → Result Levels Refusal → Type 0
PvrFound file r = FoundBehind (pvr.header_checks file) (pvr_levels file) r

abbrev pub KtxFound : List ℕ → Result Levels Refusal → Type 0
KtxFound file r = FoundBehind (ktx_header_checks file) (ktx_levels file) r

abbrev pub LevelsFound : List ℕ → Result Levels Refusal → Type 0
LevelsFound file r = FoundBehind (header_checks file) (levels_in file) r

-- The need of a picture with these sides, in the stored grid.
abbrev pub need_of : (width height : ℕ) → Bool → ℕ
need_of width height two = need (picture width height two Stored BlueFirst)

-- The first level.
abbrev pub first_level : Levels → Level
first_level l =
    record {
      width = l.width;
      height = l.height;
      is2bpp = l.is2bpp;
      start = l.start + size_word_bytes l.sized;
      need = need_of l.width l.height l.is2bpp;
    }

-- The level that follows another.
abbrev pub next_level : (sized : Bool) → Level → Level
next_level sized level =
    record {
      width = halved_once level.width;
      height = halved_once level.height;
      is2bpp = level.is2bpp;
      start = level.start + taken_by sized level.need + size_word_bytes sized;
      need = need_of (halved_once level.width) (halved_once level.height) level.is2bpp;
    }

-- The sides of the first level are accepted, and it starts low: so no sum on the way to a level wraps.
pub record Walks (l : Levels) : Type 0 where
  pub wide : l.width ≤ 65536
  pub high : l.height ≤ 65536
  pub low : l.start < 4294967360

-- The same of one level on the way.
pub record Small (level : Level) : Type 0 where
  pub wide : level.width ≤ 65536
  pub high : level.height ≤ 65536
  pub low : level.start < 1099511627776
  pub few : level.need ≤ 34359738368

-- The picture of a described level.
abbrev pub picture_for : Level → Picture
picture_for level = picture level.width level.height level.is2bpp Stored BlueFirst

-- Decoding a described level in an order of channels: the block call on the bytes from its start on.
pub record DecodedAt (order : ChannelOrder) (file : List ℕ) (level : Level) (old new : List ℕ) (r : Result (Unit {0}) Refusal) : Type 0 where
  pub number : decoded_number r ≡ refusal (picture_for level) (Block (length old)) (drop level.start file)
  pub words : new
      ≡ cond (eqb (refusal (picture_for level) (Block (length old)) (drop level.start file)) 0)
      (on_sheet (sheet_of (picture_for level)) (picture_texel (in_order order (picture_for level)) (drop level.start file)) old) old
