-- What was read of a file while its PVR header was refused by another list of checks, `head`. All else is that of today. Assumes nothing: these are
-- definitions.
use Rattle.std.specs.Prelude.{◌≡◌, true, cond, List, ◌++◌, ◌↔◌, ℕ, length, Result}
use Rattle.facts.specs.Checks.{Check, first_of}
use Rattle.files.specs.Fields.{bits_of}
use Rattle.files.specs.Reading.{Says, Shown}
use Rattle.files.specs.declared.Stored.{Stored}
use Rattle.paint.specs.Sheet.{on_sheet}
use Rattle.pixel.specs.declared.ChannelOrder.{ChannelOrder}
use Rattle.pvrtc.specs.Picture.{in_order, sheet_of, picture_texel}
use Rattle.pvr.specs.Header.{width_field, height_field, is_two, payload_offset, number_of, HeaderAnswered, HeaderRead}
use Rattle.pvr.specs.Reading.{pvr_plate, pvr_says}
use Rattle.ktx.specs.Header.{is_ktx}
use Rattle.ktx.specs.Reading.{ktx_says}
use Rattle.levels.specs.Calls.{Answered as AnsweredLevel, LevelRead, LevelDecoded}
use Rattle.levels.specs.Levels.{levels_in, level_of, picture_of, level_data as data_of_level}
use Rattle.levels.specs.Refusals.{ktx_header_checks, own_checks as level_own_checks, call_checks, decoded_number}
use Rattle.capi.specs.Level.{described_field, level_field, WroteLevel}
use Rattle.capi.specs.Plate.{Wrote, plate_field, field_of, header_field}
use Rattle.convert.specs.Output.{stored_in, plate_of, level_data, own_checks, written, output, Answered, Converted, roomy, ConvertedInRoom}
use Rattle.levels.specs.declared.Level.{Level}
use Rattle.levels.specs.declared.Refusal.{Refusal as LevelRefusal}
use Rattle.pvr.specs.declared.HeaderRefusal.{HeaderRefusal as PvrRefusal}
use Rattle.pvr.specs.declared.Plate.{Plate as PvrPlate}

-- A field of the header that C was told.
abbrev pub field_by : List Check → List ℕ → ℕ → ℕ
field_by head file k = field_of (first_of head) (plate_field (width_field file) (height_field file) (bits_of (is_two file)) (payload_offset file) k) k

-- What a PVR file said to the program. Its plate is that of today.
abbrev pub pvr_says_by : List Check → List ℕ → Says
pvr_says_by head file = record { refusals = head; plate = pvr_plate file }

-- The refusals of a header, read as what the file is taken for. A KTX file's, `ktx`, are those of today.
abbrev pub head_by : (ktx head : List Check) → List ℕ → List Check
head_by ktx head file = cond (is_ktx file) ktx head

-- The program's refusals, in their order: the header's, and its own, which are those of today; and the number that it said.
abbrev pub program_checks_by : List Check → List ℕ → List Check
program_checks_by head file = head_by (ktx_says file).refusals head file ++ own_checks (stored_in file) (length (level_data file))

abbrev pub program_refusal_by : List Check → List ℕ → ℕ
program_refusal_by head file = first_of (program_checks_by head file)

-- The refusals of level k: the header's, and its own, which are those of today; of decoding it, and then the block call's.
abbrev pub level_checks_by : List Check → List ℕ → ℕ → List Check
level_checks_by head file k = head_by (ktx_header_checks file) head file ++ level_own_checks file (levels_in file) k

abbrev pub level_refusal_by : List Check → List ℕ → ℕ → ℕ
level_refusal_by head file k = first_of (level_checks_by head file k)

abbrev pub decode_refusal_by : List Check → List ℕ → ℕ → (room : ℕ) → ℕ
decode_refusal_by head file k room =
    first_of (level_checks_by head file k ++ call_checks (picture_of file k) (length (data_of_level file k)) room)

-- Lent words with level k of a file in front, in an order of channels.
abbrev pub with_level : ChannelOrder → List ℕ → ℕ → (old : List ℕ) → List ℕ
with_level order file k old = on_sheet (sheet_of (picture_of file k)) (picture_texel (in_order order (picture_of file k)) (data_of_level file k)) old

-- Every answer of today is the one by that list, in full.
pub record AnsweredBy (head : List Check) (file : List ℕ) : Type 0 where
  -- The header's, what its reader tells the program, and C's fields.
  pub header : (r : Result PvrPlate PvrRefusal) → HeaderRead file r ↔ HeaderAnswered (first_of head) file r
  pub reading : (r : Result Stored PvrRefusal) → Shown number_of (pvr_says file) r ↔ Shown number_of (pvr_says_by head file) r
  pub c-field : (k : ℕ) → header_field file k ≡ field_by head file k
  -- The program's: its output, and what `convert` lays into lent bytes and words, and `plate_convert` where there is room.
  pub program : output file ≡ written (program_refusal_by head file) (plate_of file) (level_data file)
  pub laid : (image image' out out' : List ℕ) (r : ℕ)
      → Converted file image image' out out' r ↔ Answered (program_refusal_by head file) (plate_of file) (level_data file) image image' out out' r
  pub laid-in-room : (image image' out out' : List ℕ) (r : ℕ) → roomy image out ≡ true
      → ConvertedInRoom file image image' out out' r ↔ Answered (program_refusal_by head file) (plate_of file) (level_data file) image image' out out' r
  -- A level's: its description and its picture in either order, and both in C.
  pub description : (k : ℕ) (r : Result Level LevelRefusal) → LevelRead file k r ↔ AnsweredLevel (level_refusal_by head file k) (level_of file k) r
  pub c-description : (k field : ℕ) → level_field file k field ≡ field_of (level_refusal_by head file k) (described_field (level_of file k) field) field
  pub picture : (order : ChannelOrder) (k : ℕ) (old new : List ℕ) (r : Result (Unit {0}) LevelRefusal) → LevelDecoded order file k old new r
      ↔ Wrote (decode_refusal_by head file k (length old)) (with_level order file k old) old new (decoded_number r)
  pub c-picture : (order : ChannelOrder) (k : ℕ) (old new : List ℕ) (n : ℕ) → WroteLevel order file k old new n
      ↔ Wrote (decode_refusal_by head file k (length old)) (with_level order file k old) old new n
