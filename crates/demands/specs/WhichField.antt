-- A PVR file is refused by the number of its field (document 02, W4): everything refused as 14 before is still refused, and nothing else is. Over
-- what reads such a file. Assumes nothing: these are definitions.
use Rattle.std.specs.Prelude.{◌≡◌, List, ℕ, ◌<◌, Result, Err}
use Rattle.files.specs.Reading.{Shown}
use Rattle.pvr.specs.Header.{header_refusal, number_of, header_number, HeaderRead}
use Rattle.pvr.specs.OneNumber.{one_number_checks, one_number_refusal, SaysWhich}
use Rattle.pvr.specs.Reading.{pvr_says}
use Rattle.capi.specs.Plate.{header_field}
use Rattle.convert.specs.Output.{program_refusal}
use Rattle.demands.specs.Before.{field_by, program_refusal_by, AnsweredBy}
use Rattle.pvr.specs.declared.HeaderRefusal.{HeaderRefusal as PvrRefusal}
use Rattle.pvr.specs.declared.Plate.{Plate as PvrPlate}

-- Each number that is said of a file beside the one before; and where that was not 14, every answer is what it was.
pub record WhichField (file : List ℕ) : Type 0 where
  -- The answer of the header's reader, and the number that it tells the program.
  pub header : (r : Result PvrPlate PvrRefusal) → HeaderRead file r → SaysWhich (header_number r) (one_number_refusal file)
  pub reading : (f : PvrRefusal) → Shown number_of (pvr_says file) (Err f) → SaysWhich (number_of f) (one_number_refusal file)
  -- C's fields of the header: field 0 is the number, and every other is what it was.
  pub c-number : SaysWhich (header_field file 0) (field_by (one_number_checks file) file 0)
  pub c-field : (k : ℕ) → 0 < k → header_field file k ≡ field_by (one_number_checks file) file k
  -- The program's number.
  pub program : SaysWhich (program_refusal file) (program_refusal_by (one_number_checks file) file)
  pub same : (one_number_refusal file ≡ 14 → ⊥) → AnsweredBy (one_number_checks file) file

-- So it is for every file that is not stopped for its flags, which had no effect then (W7).
abbrev pub EachField : Type 0
EachField = (file : List ℕ) → (header_refusal file ≡ 18 → ⊥) → WhichField file
