-- A PVR file with flags other than 0 and 2 is refused with 18, and nothing else is read otherwise than before (document 02, W7). Over all that reads
-- such a file. Assumes nothing: these are definitions.
use Rattle.std.specs.Prelude.{◌≡◌, Bool, not, ◌&&◌, List, ℕ, eqb, length, Result, Err}
use Rattle.files.specs.Reading.{Shown}
use Rattle.pixel.specs.declared.ChannelOrder.{ChannelOrder}
use Rattle.pvr.specs.AnyFlags.{any_flags_checks, any_flags_refusal, StopsFlags}
use Rattle.pvr.specs.Header.{unknown_flags, header_refusal, number_of, header_number, HeaderRead}
use Rattle.pvr.specs.OneNumber.{one_number_refusal}
use Rattle.pvr.specs.Reading.{pvr_says}
use Rattle.ktx.specs.Header.{is_ktx}
use Rattle.levels.specs.Calls.{described_number, LevelRead, LevelDecoded}
use Rattle.levels.specs.Refusals.{decoded_number}
use Rattle.capi.specs.Level.{level_field, WroteLevel}
use Rattle.capi.specs.Plate.{header_field}
use Rattle.convert.specs.Output.{program_refusal}
use Rattle.demands.specs.Before.{field_by, program_refusal_by, level_refusal_by, decode_refusal_by, AnsweredBy}
use Rattle.levels.specs.declared.Level.{Level}
use Rattle.levels.specs.declared.Refusal.{Refusal as LevelRefusal}
use Rattle.pvr.specs.declared.HeaderRefusal.{HeaderRefusal as PvrRefusal}
use Rattle.pvr.specs.declared.Plate.{Plate as PvrPlate}

-- A file that is not taken as KTX, and whose flags are unknown.
abbrev pub has_unknown_flags : List ℕ → Bool
has_unknown_flags file = not (is_ktx file) && unknown_flags file

-- Each number that is said of a file beside the one before; and where a file is not stopped, every answer is what it was.
pub record FlagsStop (file : List ℕ) : Type 0 where
  -- The answer of the header's reader, the number that it tells the program, and C's.
  pub header : (r : Result PvrPlate PvrRefusal) → HeaderRead file r → StopsFlags (unknown_flags file) (header_number r) (any_flags_refusal file)
  pub reading : (f : PvrRefusal) → Shown number_of (pvr_says file) (Err f) → StopsFlags (unknown_flags file) (number_of f) (any_flags_refusal file)
  pub c-number : StopsFlags (unknown_flags file) (header_field file 0) (field_by (any_flags_checks file) file 0)
  -- The program's.
  pub program : StopsFlags (has_unknown_flags file) (program_refusal file) (program_refusal_by (any_flags_checks file) file)
  -- A level's, when it is described and when it is decoded, and C's of both.
  pub description : (k : ℕ) (r : Result Level LevelRefusal) → LevelRead file k r
      → StopsFlags (has_unknown_flags file) (described_number r) (level_refusal_by (any_flags_checks file) file k)
  pub c-description : (k : ℕ) → StopsFlags (has_unknown_flags file) (level_field file k 0) (level_refusal_by (any_flags_checks file) file k)
  pub picture : (order : ChannelOrder) (k : ℕ) (old new : List ℕ) (r : Result (Unit {0}) LevelRefusal) → LevelDecoded order file k old new r
      → StopsFlags (has_unknown_flags file) (decoded_number r) (decode_refusal_by (any_flags_checks file) file k (length old))
  pub c-picture : (order : ChannelOrder) (k : ℕ) (old new : List ℕ) (n : ℕ) → WroteLevel order file k old new n
      → StopsFlags (has_unknown_flags file) n (decode_refusal_by (any_flags_checks file) file k (length old))
  pub same : (header_refusal file ≡ 18 → ⊥) → AnsweredBy (any_flags_checks file) file
  -- Beside document 01's own list, which had one number for four fields: accepted today is what it accepted, with known flags.
  pub accepted : eqb (header_refusal file) 0 ≡ (eqb (one_number_refusal file) 0 && not (unknown_flags file))
