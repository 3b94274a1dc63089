-- What 18 refuses, beside what was refused while flags had no effect. Assumes nothing.
use Rattle.std.proofs.Common.{◌≡◌, ℕ, Bool, true, false, cond, not, ◌&&◌, T, eqb, List, ◌∷◌, sym, refl, ◌∙◌, arith, ne_eqb, eqb-true}
use mathlib.Core.Bool.{false≢true}
use borrow.Author.Tests.{eqb-false}
use Rattle.facts.specs.Checks.{Check, check, first_of}
use Rattle.facts.proofs.Lists.{choice}
use Rattle.files.proofs.Answers.{numbers_pass, said-passes}
use Rattle.pvr.specs.AnyFlags.{any_flags_refusal, passes, stopped, StopsFlags}
use Rattle.pvr.specs.Header.{short_header, not_pvr, unknown_flags, unknown_format, count_checks, header_refusal}

-- a list whose numbers all pass says one that does, or none
pub passing : (l : List Check) → T (numbers_pass passes l) → passes (first_of l) ≡ true
passing l t = by (passes (first_of l)) (said-passes passes l tt t)
  where
    by : (t : Bool) → T t → t ≡ true
    by true _ = refl
    by false q = absurd q

-- what is refused besides
newly-stopped : (unknown : Bool) {today before : ℕ} → today ≡ stopped unknown before → StopsFlags unknown today before
newly-stopped true e = record { number = e; newly = (λ h. (refl, h.1), λ h. (omega (arith, rw h.1 at e), h.1)) }
newly-stopped false e = record { number = e; newly = (λ h. absurd (omega (arith, e, h.0, h.1)), λ h. absurd (false≢true h.0)) }

pub known_same : {n : ℕ} → StopsFlags false n n
known_same = newly-stopped false refl

-- the header's own numbers
header-number : (file : List ℕ) → header_refusal file ≡ stopped (unknown_flags file) (any_flags_refusal file)
unfolding first_of
header-number file = by (short_header file) (not_pvr file) (unknown_flags file)
  where
    rest : List Check
    rest = check (unknown_format file) 13 ∷ count_checks file

    by : (short other unknown : Bool)
        → first_of (check short 11 ∷ check other 12 ∷ check unknown 18 ∷ rest) ≡ stopped unknown (first_of (check short 11 ∷ check other 12 ∷ rest))
    by true other true = refl
    by true other false = refl
    by false true true = refl
    by false true false = refl
    by false false true = rw (passing rest tt) refl
    by false false false = refl

pub flags-stop : (file : List ℕ) → StopsFlags (unknown_flags file) (header_refusal file) (any_flags_refusal file)
flags-stop file = newly-stopped (unknown_flags file) (header-number file)

module _ {unknown : Bool} {today before : ℕ} (w : StopsFlags unknown today before) where
  -- what is not stopped is what it was
  pub not_stopped : (today ≡ 18 → ⊥) → today ≡ before
  not_stopped none = by (unknown && passes before) w.number
    where
      by : (t : Bool) → today ≡ cond t 18 before → today ≡ before
      by true e = absurd (none e)
      by false e = e

  -- what is accepted was accepted, and has known flags
  pub accepted : eqb today 0 ≡ (eqb before 0 && not unknown)
  accepted = rw w.number (by unknown (eqb before 0) refl)
    where
      by : (u t : Bool) → eqb before 0 ≡ t → eqb (stopped u before) 0 ≡ (t && not u)
      by false true e = e
      by false false e = e
      by true true e = rw (eqb-true before 0 e) refl
      by true false e = choice (λ (n : ℕ). eqb n 0 ≡ false) (passes before) (λ _. refl) (λ _. e)

  -- so it is with a number that is said where these say none
  pub or_else : (n : ℕ) → passes n ≡ true → StopsFlags unknown (cond (eqb today 0) n today) (cond (eqb before 0) n before)
  or_else n b = newly-stopped unknown (by unknown (eqb before 0) refl w.number)
    where
      above : (t : Bool) → (before ≡ 0 → ⊥) → today ≡ cond t 18 before → eqb today 0 ≡ false
      above true none e = ne_eqb today 0 (λ q. omega (arith, q, e))
      above false none e = ne_eqb today 0 (λ q. none (sym e ∙ q))

      by : (u t : Bool) → eqb before 0 ≡ t → today ≡ stopped u before → cond (eqb today 0) n today ≡ stopped u (cond t n before)
      by false true e q = rw (q, e) refl
      by false false e q = rw (q, e) refl
      by true true e q = rw (b, q, eqb-true before 0 e) refl
      by true false e q = rw (above (passes before) (eqb-false before 0 e) q) q
