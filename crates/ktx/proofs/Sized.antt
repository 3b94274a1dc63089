-- Decoding data whose size is said: the sizes speak first, then the said size, then the block call. Assumes nothing.
use Rattle.std.proofs.Common.{◌≡◌, ℕ, false, not, eqb, List, [], ◌∷◌, length, Ok, Err, Result, sym, refl, ap, ◌∙◌, arith, eq-eqb, ne_eqb}
use Rattle.facts.specs.Checks.{check, first_of}
use Rattle.facts.proofs.Checks.{none_said, said-first, said-later}
use Rattle.files.proofs.Answers.{stopped}
use Rattle.pvrtc.specs.Calls.{refusal, BlockDecoded}
use Rattle.pvrtc.specs.Refusals.{need, large_side, outside, size_checks, checks}
use Rattle.pvrtc.specs.Refusals as call
use Rattle.pvrtc.specs.declared.Call.TheVariants.{Block}
use Rattle.pvrtc.specs.declared.Picture.{Picture}
use Rattle.pvrtc.specs.declared.Refusal.{Refusal as CallRefusal}
use Rattle.pvrtc.specs.Numbers.{number-above}
use Rattle.ktx.specs.Inner.{called_as, SizedDecoded}
use Rattle.ktx.specs.Numbers.{reason-above}
use Rattle.ktx.specs.Picture.{other_size, sized_checks, reason_number, decoded_number}
use Rattle.ktx.specs.declared.Refusal.{Refusal}

-- the block call's answer keeps its number
pub same_number : (s : Result (Unit {0}) CallRefusal) → decoded_number (called_as s) ≡ call.decoded_number s
same_number (Ok x) = refl
same_number (Err f) = refl

-- with the size that the picture needs, it is the block call that speaks
pub call-speaks : (p : Picture) (size len room : ℕ) → size ≡ need p → first_of (sized_checks p size len room) ≡ first_of (checks p (Block room) len)
unfolding first_of outside
call-speaks p size len room e = simp (eq-eqb size (need p) e)

module _ (p : Picture) (size : ℕ) (d old : List ℕ) where
  abbrev said : ℕ
  said = first_of (sized_checks p size (length d) (length old))

  -- where a number is said, nothing is written
  pub unwritten : {r : Result (Unit {0}) Refusal} {f : Refusal} → r ≡ Err f → reason_number f ≡ said → SizedDecoded p size d old old r
  unwritten {f = f} q e =
      let other : eqb said 0 ≡ false = ne_eqb said 0 (omega (arith, reason-above f)) in
      rw q (record { number = e; words = rw other })

  -- the sizes are refused
  pub by-sizes : (f : CallRefusal) → call.number_of f ≡ first_of (size_checks p) → call.number_of f ≡ said
  by-sizes f e = said-first (size_checks p) _ tt e (number-above f)

  module _ (sized : 0 ≡ first_of (size_checks p)) where
    pub not-large : large_side p ≡ false
    not-large = none_said (size_checks p) tt (sym sized) 2

    -- the said size, which is compared with what is asked of the data
    module _ {n : ℕ} (asked : n ≡ need p) where
      other : not (eqb size n) ≡ other_size size p
      other = ap (λ (m : ℕ). not (eqb size m)) asked

      pub by-other : (f : Refusal) → reason_number f ≡ first_of (check (not (eqb size n)) 36 ∷ []) → reason_number f ≡ said
      by-other f e = said-later (size_checks p) _ tt sized (stopped 36 _ other (reason-above f) e)

      -- it is the same: the block call's answer
      module _ (same : 0 ≡ first_of (check (not (eqb size n)) 36 ∷ [])) where
        size-is : size ≡ n
        unfolding first_of
        size-is = grind (arith, same)

        pub by_call : {new : List ℕ} {t : Result (Unit {0}) CallRefusal} {r : Result (Unit {0}) Refusal} → r ≡ called_as t
            → BlockDecoded p d old new t → SizedDecoded p size d old new r
        by_call {t = t} q b =
            let speaks : said ≡ refusal p (Block (length old)) d = call-speaks p size (length d) (length old) (size-is ∙ asked) in
            record { number = ap decoded_number q ∙ same_number t ∙ b.number ∙ sym speaks; words = rw speaks b.words }
