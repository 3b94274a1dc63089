-- A PVR file is refused by the number of its field, and every other answer is what it was. Assumes nothing.
use Rattle.std.proofs.Common.{◌≡◌, ℕ, Bool, true, false, cond, not, ◌&&◌, T, leb, List, length, sym, subst, arith, ne_eqb, le-leb}
use Rattle.facts.specs.Checks.{Check, first_of}
use Rattle.files.proofs.Answers.{of_number, numbers_pass, said-passes}
use Rattle.pvr.specs.Header.{header_checks, header_refusal}
use Rattle.pvr.specs.OneNumber.{one_number_checks, one_number_refusal, OfField, SaysWhich}
use Rattle.pvr.proofs.AnyFlags.{flags-stop, not_stopped}
use Rattle.pvr.proofs.OneNumber.{same, header-which, none-same, or_else}
use Rattle.ktx.specs.Header.{is_ktx}
use Rattle.convert.specs.Output.{stored_in, level_data, own_checks, program_refusal}
use Rattle.demands.specs.Before.{program_refusal_by}
use Rattle.demands.specs.WhichField.{WhichField, EachField}
use Rattle.demands.proofs.Before.{said_by, ktx_said, program-today, program-by, answered-by}

-- a list with no number of a field says none
no_field : ℕ → Bool
no_field n = not (leb 14 n && leb n 17)

says-no-field : (l : List Check) → T (numbers_pass no_field l) → OfField (first_of l) → ⊥
unfolding no_field
says-no-field l t h = rw (le-leb 14 (first_of l) h.0, le-leb (first_of l) 17 h.1) at (said-passes no_field l tt t)

module _ (file : List ℕ) (none : header_refusal file ≡ 18 → ⊥) where
  abbrev before : List Check
  before = one_number_checks file

  -- a header that is not stopped for its flags has the number that it had while they had no effect
  head : SaysWhich (header_refusal file) (one_number_refusal file)
  head = subst (λ n. SaysWhich n (one_number_refusal file)) (sym (not_stopped (flags-stop file) none)) (header-which file)

  -- the header of either kind, today and before
  said : SaysWhich (said_by (ktx_said file) (header_checks file) file) (said_by (ktx_said file) before file)
  unfolding no_field
  said = by (is_ktx file)
    where
      by : (t : Bool) → SaysWhich (first_of (cond t (ktx_said file) (header_checks file))) (first_of (cond t (ktx_said file) before))
      by true = same (says-no-field (ktx_said file) tt)
      by false = head

  program : SaysWhich (program_refusal file) (program_refusal_by before file)
  unfolding no_field
  program =
      let own : List Check = own_checks (stored_in file) (length (level_data file)) in
      rw (program-today file, program-by (header_checks file) file tt, program-by before file tt) (or_else said (says-no-field own tt))

  which : WhichField file
  which =
      record {
        header = λ r p. subst (λ n. SaysWhich n (one_number_refusal file)) (sym p.number) head;
        reading = λ f a. subst (λ m. SaysWhich m (one_number_refusal file)) (of_number a) head;
        c-number = head;
        c-field = λ k h. rw (ne_eqb k 0 (λ e. omega arith), none-same head);
        program = program;
        same = λ differs. answered-by before file tt (head.other differs);
      }

pub which-field : EachField
which-field = which
