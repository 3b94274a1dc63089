-- The face that every reader of files shows to the program: what a file says, whatever kind of file it is. Assumes nothing: these are definitions.
use Rattle.std.specs.Prelude.{◌≡◌, Bool, true, List, ℕ, eqb, Option, None, Some, Result, IfOk}
use Rattle.facts.specs.Checks.{Check, first_of, number_said}
use Rattle.files.specs.declared.Stored.{Stored}

-- What a file's bytes say: the refusals of its header, in their order, and its plate.
pub record Says : Type 0 where
  pub refusals : List Check
  pub plate : Stored

-- What the answer r to a reader's caller says of a file: the plate where the header is accepted, else the reason that has the refusal's number.
pub record Shown {E : Type 0} (number : E → ℕ) (s : Says) (r : Result Stored E) : Type 0 where
  pub refusal : number_said number r ≡ first_of s.refusals
  pub plate : IfOk r (λ p. p ≡ s.plate)

-- A size fits a need where it is that need, or where none is said.
abbrev pub fits_size : Option ℕ → (need : ℕ) → Bool
fits_size None need = true
fits_size (Some n) need = eqb n need
