-- What each call promises. Assumes nothing: these are definitions.
use Rattle.std.specs.Prelude.{◌≡◌, cond, List, ℕ, eqb, length, Result}
use Rattle.facts.specs.Checks.{first_of}
use Rattle.paint.specs.Paint.{painted}
use Rattle.paint.specs.Sheet.{on_sheet}
use Rattle.pvrtc.specs.declared.Call.{Call}
use Rattle.pvrtc.specs.declared.Call.TheVariants as call
use Rattle.pvrtc.specs.declared.Picture.{Picture}
use Rattle.pvrtc.specs.declared.Refusal.{Refusal}
use Rattle.pvrtc.specs.Picture.{sheet_of, picture_texel}
use Rattle.pvrtc.specs.Refusals.{checks, decoded_number, texel_number, texel_value}

-- The number that a call on the data d says.
abbrev pub refusal : Picture → Call → List ℕ → ℕ
refusal p c d = first_of (checks p c (length d))

-- The texel call: its number, and the texel where that is 0.
pub record TexelRead (p : Picture) (d : List ℕ) (x y : ℕ) (r : Result ℕ Refusal) : Type 0 where
  pub number : texel_number r ≡ refusal p (call.Texel x y) d
  pub value : texel_value r ≡ cond (eqb (refusal p (call.Texel x y) d) 0) (picture_texel p d x y) 0

-- A call that writes into lent words: its number n, and the words afterwards, which are `done` where n is 0 and else as they were.
pub record Written (n : ℕ) (done old new : List ℕ) (r : Result (Unit {0}) Refusal) : Type 0 where
  pub number : decoded_number r ≡ n
  pub words : new ≡ cond (eqb n 0) done old

-- The row call: texel (x, y) at word x, later words as they were.
abbrev pub RowDecoded : Picture → List ℕ → ℕ → (old new : List ℕ) → Result (Unit {0}) Refusal → Type 0
RowDecoded p d y old new r =
    Written (refusal p (call.Row y (length old)) d) (painted 0 p.width p.width 1 (λ x _. picture_texel p d x y) old) old new r

-- The block call: texel (x, y) at word y × width + x, later words as they were.
abbrev pub BlockDecoded : Picture → List ℕ → (old new : List ℕ) → Result (Unit {0}) Refusal → Type 0
BlockDecoded p d old new r =
    Written (refusal p (call.Block (length old)) d) (on_sheet (sheet_of p) (picture_texel p d) old) old new r
