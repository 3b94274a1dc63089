-- Checks in an order: a call says the number of the first whose condition holds. Assumes nothing: these are definitions.
use Rattle.std.specs.Prelude.{◌≡◌, Bool, true, false, cond, ◌&&◌, List, [], ◌∷◌, ℕ, ◌<◌, eqb, ltb, length, get_or, Ok, Err}
use Rattle.std.specs.Prelude.{Result}

-- A condition, and the number that is said where it holds.
pub record Check : Type 0 where
  pub holds : Bool
  pub number : ℕ

abbrev pub check : Bool → ℕ → Check
check holds number = record { holds = holds; number = number }

-- The number of the first check whose condition holds, and 0 where none does.
unfoldable pub first_of : List Check → ℕ
first_of [] = 0
first_of (c ∷ l) = cond c.holds c.number (first_of l)

-- Every number of a list is above 0.
abbrev pub numbered : List Check → Bool
numbered [] = true
numbered (c ∷ l) = ltb 0 c.number && numbered l

-- The condition of the check that says n; where none does, one that never holds.
abbrev pub condition : List Check → ℕ → Bool
condition [] n = false
condition (c ∷ l) n = cond (eqb c.number n) c.holds (condition l n)

-- The check at a place of a list; past its end, one that never holds.
abbrev pub at : List Check → ℕ → Check
at l k = get_or l k (check false 0)

-- The number n is given by the check at some place: its condition holds, and that of no earlier one does.
pub record Given (l : List Check) (n : ℕ) : Type 0 where
  pub place : ℕ
  pub within : place < length l
  pub number : (at l place).number ≡ n
  pub holds : (at l place).holds ≡ true
  pub none-earlier : (k : ℕ) → k < place → (at l k).holds ≡ false

-- The number that an answer says, where `number` gives that of each reason to refuse: 0 where nothing is refused.
abbrev pub number_said : {A E : Type 0} → (E → ℕ) → Result A E → ℕ
number_said number (Ok x) = 0
number_said number (Err f) = number f

-- An answer says what a list of checks says.
abbrev pub Says : {A E : Type 0} → (E → ℕ) → Result A E → List Check → Type 0
Says number r l = number_said number r ≡ first_of l
