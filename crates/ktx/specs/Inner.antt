-- What the functions inside promise one another. Assumes nothing: these are definitions.
use Rattle.std.specs.Prelude.{◌≡◌, cond, List, ℕ, eqb, length, Result, Ok, Err}
use Rattle.facts.specs.Checks.{first_of, Says}
use Rattle.paint.specs.Sheet.{on_sheet}
use Rattle.pvrtc.specs.Picture.{sheet_of, picture_texel}
use Rattle.pvrtc.specs.declared.Picture.{Picture}
use Rattle.pvrtc.specs.declared.Refusal.{Refusal as CallRefusal}
use Rattle.ktx.specs.Header.{field_checks, number_of}
use Rattle.ktx.specs.Picture.{sized_checks, decoded_number}
use Rattle.ktx.specs.declared.HeaderRefusal.{HeaderRefusal}
use Rattle.ktx.specs.declared.Refusal.{Refusal}
use Rattle.ktx.specs.declared.Refusal.TheVariants as why

-- The fields say the first of their refusals.
abbrev pub FieldsSay : List ℕ → Result (Unit {0}) HeaderRefusal → Type 0
FieldsSay file r = Says number_of r (field_checks file)

-- The block call's answer as that of a file.
abbrev pub called_as : Result (Unit {0}) CallRefusal → Result (Unit {0}) Refusal
called_as (Ok x) = Ok x
called_as (Err f) = Err (why.Picture f)

-- Decoding data whose size is said: its number, and the lent words afterwards.
pub record SizedDecoded (p : Picture) (size : ℕ) (d old new : List ℕ) (r : Result (Unit {0}) Refusal) : Type 0 where
  pub number : decoded_number r ≡ first_of (sized_checks p size (length d) (length old))
  pub words : new ≡ cond (eqb (first_of (sized_checks p size (length d) (length old))) 0) (on_sheet (sheet_of p) (picture_texel p d) old) old
