-- What a list of checks says, check by check: the number of one that holds, past one that does not what the rest says, and 0 at the end.
-- Assumes nothing.
use Rattle.std.proofs.Common.{◌≡◌, refl, Bool, true, List, [], ◌∷◌, ℕ, false}
use Rattle.facts.specs.Checks.{Check, check, first_of}

module _ (b : Bool) (n : ℕ) (l : List Check) where
  pub holds-here : b ≡ true → n ≡ first_of (check b n ∷ l)
  unfolding first_of
  holds-here e = simp e

  -- one that does not hold is passed
  pub holds_later : {m : ℕ} → b ≡ false → m ≡ first_of l → m ≡ first_of (check b n ∷ l)
  unfolding first_of
  holds_later e q = simp (e, q)

pub none_left : 0 ≡ first_of []
unfolding first_of
none_left = refl
