-- Groups of checks, one after the other. Assumes nothing.
use Rattle.std.proofs.Common.{◌≡◌, sym, ap, ◌∙◌, Bool, ℕ, List, [], ◌∷◌, ◌++◌, T, Ok, Err, Result}
use Rattle.facts.specs.Checks.{Check, check, first_of, numbered}
use Rattle.facts.proofs.Checks.{said-first, said-later}
use Rattle.pvrtc.specs.Numbers.{number-above}
use Rattle.pvrtc.specs.Refusals.{decoded_number, Says}
use Rattle.pvrtc.specs.declared.Refusal.{Refusal}

-- a group of one check says what its condition says
pub one-asked : (n : ℕ) {said : ℕ} {t u : Bool} → said ≡ first_of (check t n ∷ []) → t ≡ u → said ≡ first_of (check u n ∷ [])
one-asked n says e = says ∙ ap (λ (b : Bool). first_of (check b n ∷ [])) e

module _ (l m : List Check) {r : Result (Unit {0}) Refusal} (t : T (numbered l)) (says : Says r l) where
  -- what a group refuses is refused, whatever follows
  pub stops : {f : Refusal} → r ≡ Err f → Says r (l ++ m)
  stops {f} e = said-first l m t says (rw e (number-above f))

  -- where it refuses nothing, what follows speaks
  pub goes_on : {n : ℕ} → r ≡ Ok tt → n ≡ first_of m → n ≡ first_of (l ++ m)
  goes_on e rest = said-later l m t (sym (ap decoded_number e) ∙ says) rest
