-- The picture of a KTX file, as document 02 says it (W1). Assumes nothing: these are definitions.
use Rattle.std.specs.Prelude.{◌≡◌, Bool, cond, not, List, ◌∷◌, ◌++◌, ℕ, eqb, length, drop, Result}
use Rattle.facts.specs.Checks.{Check, check, first_of, number_said}
use Rattle.paint.specs.Sheet.{on_sheet}
use Rattle.pixel.specs.declared.ChannelOrder.{ChannelOrder}
use Rattle.pixel.specs.declared.ChannelOrder.TheVariants.{BlueFirst}
use Rattle.pvrtc.specs.Picture.{picture, in_order, sheet_of, picture_texel}
use Rattle.pvrtc.specs.Refusals as call
use Rattle.pvrtc.specs.Refusals.{need, size_checks, data_checks, room_checks, grid_checks}
use Rattle.pvrtc.specs.declared.Call.TheVariants.{Block}
use Rattle.pvrtc.specs.declared.GridMode.TheVariants.{Stored}
use Rattle.pvrtc.specs.declared.Picture.{Picture}
use Rattle.ktx.specs.Header.{width_field, height_field, is_two, size_word_of, payload_offset, header_checks, number_of}
use Rattle.ktx.specs.declared.Refusal.{Refusal}
use Rattle.ktx.specs.declared.Refusal.TheVariants as reason

-- The plate that a header describes. A file has the stored grid, and says no order: blue first.
abbrev pub plate_of : List ℕ → Picture
plate_of file = picture (width_field file) (height_field file) (is_two file) Stored BlueFirst

-- The data of level 0 follows the size word.
abbrev pub level_data : List ℕ → List ℕ
level_data file = drop (payload_offset file) file

-- A size word that differs from the need.
abbrev pub other_size : (size : ℕ) → Picture → Bool
other_size size p = not (eqb size (need p))

-- The refusals of a picture whose data has `len` bytes and is said to have `size`, into `room` words: the sizes', that of another size, and
-- then those of the block call.
abbrev pub sized_checks : Picture → (size len room : ℕ) → List Check
sized_checks p size len room =
    size_checks p ++ (check (other_size size p) 36 ∷ (data_checks p len ++ (room_checks p (Block room) ++ grid_checks p)))

-- The refusals of a file's picture, in their order: the header's come first.
abbrev pub picture_checks : List ℕ → (room : ℕ) → List Check
picture_checks file room = header_checks file ++ sized_checks (plate_of file) (size_word_of file) (length (level_data file)) room

-- The number that decoding a file into `room` words says.
abbrev pub picture_refusal : List ℕ → (room : ℕ) → ℕ
picture_refusal file room = first_of (picture_checks file room)

-- Document 02's number of a refusal.
abbrev pub reason_number : Refusal → ℕ
reason_number (reason.Unread f) = number_of f
reason_number reason.OtherSize = 36
reason_number (reason.Picture f) = call.number_of f

-- The number of an answer: 0 for none.
abbrev pub decoded_number : Result (Unit {0}) Refusal → ℕ
decoded_number r = number_said reason_number r

-- Decoding a file in an order of channels: its number, and the lent words afterwards. Where the number is 0, texel (x, y) stands at word
-- y × width + x and later words are as they were; else all are.
pub record KtxDecoded (order : ChannelOrder) (file old new : List ℕ) (r : Result (Unit {0}) Refusal) : Type 0 where
  pub number : decoded_number r ≡ picture_refusal file (length old)
  pub words : new
      ≡ cond (eqb (picture_refusal file (length old)) 0)
      (on_sheet (sheet_of (plate_of file)) (picture_texel (in_order order (plate_of file)) (level_data file)) old) old
