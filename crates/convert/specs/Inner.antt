-- What the functions inside ask and promise one another. Assumes nothing: these are definitions.
use Rattle.std.specs.Prelude.{◌≡◌, cond, List, ℕ, ◌+◌, ◌*◌, ◌≤◌, eqb, length, Result, IfOk}
use Rattle.facts.specs.Checks.{number_said}
use Rattle.files.specs.declared.Stored.{Stored}
use Rattle.paint.specs.Sheet.{on_sheet}
use Rattle.pvr.specs.Header as pvr
use Rattle.ktx.specs.Header as ktx
use Rattle.pvrtc.specs.Refusals as call
use Rattle.pvrtc.specs.Picture.{sheet_of, picture_texel}
use Rattle.convert.specs.declared.Refusal.{Refusal}
use Rattle.convert.specs.declared.Refusal.TheVariants as reason
use Rattle.convert.specs.Output.{stored_in, plate_of, level_data, program_refusal, laid}

-- The documents' number of a refusal.
abbrev pub number_of : Refusal → ℕ
number_of (reason.Pvr f) = pvr.number_of f
number_of (reason.Ktx f) = ktx.number_of f
number_of reason.LongSkipped = 21
number_of reason.LongSide = 22
number_of reason.LargeNeed = 23
number_of reason.OtherSize = 36
number_of (reason.Picture f) = call.number_of f

-- What is promised of decoding a file: its number, its plate where that is 0, and the lent words, which are the picture's there and else as they were.
pub record FileDecoded (file image image' : List ℕ) (r : Result Stored Refusal) : Type 0 where
  pub number : number_said number_of r ≡ program_refusal file
  pub plate : IfOk r (λ s. s ≡ stored_in file)
  pub words : image'
      ≡ cond (eqb (program_refusal file) 0) (on_sheet (sheet_of (plate_of file)) (picture_texel (plate_of file) (level_data file)) image) image

-- Bytes were laid in front of lent bytes, and r is how many.
pub record Laid (bytes old new : List ℕ) (r : ℕ) : Type 0 where
  pub size : r ≡ length bytes
  pub is : new ≡ laid bytes old

-- A picture of w by h words fits into the lent ones, and its TGA into the lent bytes.
pub record TgaFits (w h image out : ℕ) : Type 0 where
  pub small-w : w ≤ 1024
  pub small-h : h ≤ 1024
  pub few : w * h ≤ 131072
  pub words : w * h ≤ image
  pub bytes : 18 + 4 * (w * h) ≤ out
