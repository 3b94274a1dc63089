-- What each field says by its own number today was said by 14 before, and every other number is what it was. Assumes nothing.
use Rattle.std.proofs.Common.{◌≡◌, ℕ, ◌≤◌, Bool, true, false, cond, ◌||◌, eqb, List, [], ◌∷◌, sym, refl, ◌∙◌, arith, eq-eqb, ne_eqb, eqb-true}
use borrow.Author.Tests.{eqb-false}
use Rattle.facts.specs.Checks.{Check, check, first_of}
use Rattle.pvr.specs.AnyFlags.{any_flags_refusal}
use Rattle.pvr.specs.Header.{depth_not_one, surfaces_not_one, faces_not_one, no_level, short_header, not_pvr, unknown_format}
use Rattle.pvr.specs.OneNumber.{not_one_plate, one_number_refusal, OfField, SaysWhich}

-- a number of no field is what it was, and any field's was 14
pub same : {n : ℕ} → (OfField n → ⊥) → SaysWhich n n
same none = record { field = (λ h. absurd (none h), λ e. absurd (none (omega arith, omega arith))); other = λ _. refl }

was-14 : {n : ℕ} → 14 ≤ n → n ≤ 17 → SaysWhich n 14
was-14 low high = record { field = (λ _. refl, λ _. (low, high)); other = λ d. absurd (d refl) }

-- the last four checks, and the one that they were
counts : (d s f l : Bool)
    → SaysWhich (first_of (check d 14 ∷ check s 15 ∷ check f 16 ∷ check l 17 ∷ [])) (first_of (check (d || s || f || l) 14 ∷ []))
unfolding first_of
counts true s f l = was-14 (omega arith) (omega arith)
counts false true f l = was-14 (omega arith) (omega arith)
counts false false true l = was-14 (omega arith) (omega arith)
counts false false false true = was-14 (omega arith) (omega arith)
counts false false false false = same (λ h. omega (arith, h.0))

-- a check of another number before both
first : (b : Bool) (n : ℕ) (k m : List Check) → (OfField n → ⊥) → SaysWhich (first_of k) (first_of m)
    → SaysWhich (first_of (check b n ∷ k)) (first_of (check b n ∷ m))
unfolding first_of
first true n k m none rest = same none
first false n k m none rest = rest

pub header-which : (file : List ℕ) → SaysWhich (any_flags_refusal file) (one_number_refusal file)
unfolding not_one_plate
header-which file =
    first (short_header file) 11 _ _ (λ h. omega (arith, h.0))
    (first (not_pvr file) 12 _ _ (λ h. omega (arith, h.0))
    (first (unknown_format file) 13 _ _ (λ h. omega (arith, h.0))
    (counts (depth_not_one file) (surfaces_not_one file) (faces_not_one file) (no_level file))))

module _ {today before : ℕ} (w : SaysWhich today before) where
  -- nothing is refused today just where nothing was
  pub none-same : eqb today 0 ≡ eqb before 0
  none-same = by (eqb today 0) refl
    where
      by : (t : Bool) → eqb today 0 ≡ t → t ≡ eqb before 0
      by true e =
          let none : today ≡ 0 = eqb-true today 0 e in
          let other : before ≡ 14 → ⊥ = λ q. omega (arith, none, (w.field.1 q).0) in
          sym (eq-eqb before 0 (sym (w.other other) ∙ none))
      by false e = sym (ne_eqb before 0 (λ q. eqb-false today 0 e (w.other (λ r. omega (arith, q, r)) ∙ q)))

  -- and so it is with a number that is said where these say none
  pub or_else : {n : ℕ} → (OfField n → ⊥) → SaysWhich (cond (eqb today 0) n today) (cond (eqb before 0) n before)
  or_else {n} none = rw (sym none-same) (by (eqb today 0))
    where
      by : (t : Bool) → SaysWhich (cond t n today) (cond t n before)
      by true = same none
      by false = w
