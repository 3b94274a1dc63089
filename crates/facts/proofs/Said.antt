-- What an answer says, and what a list of checks says. Assumes nothing.
use Rattle.std.proofs.Common.{◌≡◌, refl, sym, ap, ◌∙◌, ℕ, ◌<◌, List, Ok, Err, arith}
use Rattle.std.specs.Prelude.{Result}
use Rattle.std.specs.Result.{IsErr, IsErrAnd}
use Rattle.std.proofs.lemmas.Result.{err_from_is_err_and}
use Rattle.facts.specs.Checks.{Check, number_said, Says}

-- what the exit of a `?` answers, where it hands the error on as it is
pub at_exit : {A E : Type 0} {r : Result A E} {f : E} → IsErr r × IsErrAnd r (λ e. e ≡ f) → r ≡ Err f
at_exit {r = r} e = let p = err_from_is_err_and r e.1 in p.1 ∙ ap Err p.2

-- where no reason to refuse has the number 0
module _ {E : Type 0} (number : E → ℕ) (above : (f : E) → 0 < number f) where
  -- where no two reasons have the same number, answers that say the same number and give the same value are the same
  module _ (one_to_one : (f g : E) → number f ≡ number g → f ≡ g) where
    pub same-answer : {A : Type 0} (value : Result A E → A) → ((x : A) → value (Ok x) ≡ x)
        → (r s : Result A E) → number_said number r ≡ number_said number s → value r ≡ value s → r ≡ s
    same-answer value gives (Ok x) (Ok y) e q = ap Ok (sym (gives x) ∙ q ∙ gives y)
    same-answer value gives (Ok x) (Err g) e q = absurd (omega (arith, above g, e))
    same-answer value gives (Err f) (Ok y) e q = absurd (omega (arith, above f, e))
    same-answer value gives (Err f) (Err g) e q = ap Err (one_to_one f g e)

    -- so where there is no value, the number tells the answer
    pub same-said : (r s : Result (Unit {0}) E) → number_said number r ≡ number_said number s → r ≡ s
    same-said r s e = same-answer (λ _. tt) (λ _. refl) r s e refl

    -- and one answer says what a list of checks says
    pub one-said : (l : List Check) (r s : Result (Unit {0}) E) → Says number r l → Says number s l → r ≡ s
    one-said l r s a b = same-said r s (a ∙ sym b)
