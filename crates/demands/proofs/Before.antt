-- What a file's header is refused by decides what is said of the file, and a header's number all that is answered. Assumes nothing.
use Rattle.std.proofs.Common.{◌≡◌, ℕ, Bool, true, false, cond, T, eqb, ◌↔◌, List, ◌++◌, length, sym, refl, ap, ◌∙◌, subst}
use mathlib.Core.Bool.{false≢true}
use Rattle.facts.specs.Checks.{Check, first_of, numbered}
use Rattle.facts.proofs.Checks.{first-append, numbered-append}
use Rattle.facts.proofs.Lists.{choice}
use Rattle.pvr.specs.Header.{header_checks, HeaderAnswered}
use Rattle.pvr.specs.Reading.{pvr_says}
use Rattle.ktx.specs.Header.{is_ktx}
use Rattle.ktx.specs.Reading.{ktx_says}
use Rattle.levels.specs.Calls.{Answered as AnsweredLevel}
use Rattle.levels.specs.Levels.{levels_in, level_of, picture_of, level_data as data_of_level}
use Rattle.levels.specs.Refusals as level
use Rattle.levels.specs.Refusals.{ktx_header_checks, call_checks, level_refusal, decode_refusal}
use Rattle.levels.proofs.Whole.{numbered-words}
use Rattle.capi.specs.Level.{described_field}
use Rattle.capi.specs.Plate.{Wrote, field_of}
use Rattle.convert.specs.Output.{says_of, stored_in, plate_of, level_data, own_checks, program_refusal, written, Answered, Converted}
use Rattle.demands.specs.Before.{head_by, program_refusal_by, level_checks_by, level_refusal_by, decode_refusal_by, with_level, AnsweredBy}

-- today's numbers are those by today's list
module _ (file : List ℕ) where
  pub program-today : program_refusal file ≡ program_refusal_by (header_checks file) file
  unfolding says_of
  program-today = by (is_ktx file)
    where
      own : List Check
      own = own_checks (stored_in file) (length (level_data file))

      by : (t : Bool)
          → first_of ((cond t (ktx_says file) (pvr_says file)).refusals ++ own) ≡ first_of (cond t (ktx_says file).refusals (header_checks file) ++ own)
      by true = refl
      by false = refl

  pub level-today : (k : ℕ) → level_refusal file k ≡ level_refusal_by (header_checks file) file k
  unfolding level.header_checks
  level-today k = refl

  pub decode-today : (k room : ℕ) → decode_refusal file k room ≡ decode_refusal_by (header_checks file) file k room
  unfolding level.header_checks
  decode-today k room = refl

-- the number of a header of either kind
abbrev pub said_by : (ktx head : List Check) → List ℕ → ℕ
said_by ktx head file = first_of (head_by ktx head file)

-- what a KTX file's is refused by in the program
abbrev pub ktx_said : List ℕ → List Check
ktx_said file = (ktx_says file).refusals

-- each number is the header's, or else what the rest says
module _ (head : List Check) (file : List ℕ) (t : T (numbered head)) where
  numbered-head : (ktx : List Check) → T (numbered ktx) → T (numbered (head_by ktx head file))
  numbered-head ktx h = choice (λ (l : List Check). T (numbered l)) (is_ktx file) (λ _. h) (λ _. t)

  pub program-by : program_refusal_by head file
      ≡ cond (eqb (said_by (ktx_said file) head file) 0) (first_of (own_checks (stored_in file) (length (level_data file)))) (said_by (ktx_said file) head file)
  program-by =
      first-append (head_by (ktx_said file) head file) (own_checks (stored_in file) (length (level_data file))) (numbered-head (ktx_said file) tt)

  pub level_by : (k : ℕ) → level_refusal_by head file k
      ≡ cond (eqb (said_by (ktx_header_checks file) head file) 0) (first_of (level.own_checks file (levels_in file) k))
      (said_by (ktx_header_checks file) head file)
  level_by k =
      first-append (head_by (ktx_header_checks file) head file) (level.own_checks file (levels_in file) k) (numbered-head (ktx_header_checks file) tt)

  pub decode-by : (k room : ℕ) → decode_refusal_by head file k room
      ≡ cond (eqb (level_refusal_by head file k) 0) (first_of (call_checks (picture_of file k) (length (data_of_level file k)) room))
      (level_refusal_by head file k)
  decode-by k room =
      first-append (level_checks_by head file k) (call_checks (picture_of file k) (length (data_of_level file k)) room)
      (numbered-append (head_by (ktx_header_checks file) head file) _ (numbered-head (ktx_header_checks file) tt) (numbered-words file (levels_in file) k))

-- what is met with a number is met with another that equals it
both_ways : (Q : ℕ → Type 0) {n m : ℕ} → n ≡ m → Q n ↔ Q m
both_ways Q e = (subst Q e, subst Q (sym e))

-- so where the header's number is the same, all is
module _ (head : List Check) (file : List ℕ) (t : T (numbered head)) (e : first_of (header_checks file) ≡ first_of head) where
  said_same : (ktx : List Check) → said_by ktx (header_checks file) file ≡ said_by ktx head file
  said_same ktx = by (is_ktx file)
    where
      by : (k : Bool) → first_of (cond k ktx (header_checks file)) ≡ first_of (cond k ktx head)
      by true = refl
      by false = e

  program-same : program_refusal file ≡ program_refusal_by head file
  program-same =
      program-today file ∙ program-by (header_checks file) file tt
      ∙ ap (λ (n : ℕ). cond (eqb n 0) (first_of (own_checks (stored_in file) (length (level_data file)))) n) (said_same (ktx_said file))
      ∙ sym (program-by head file t)

  level-same-by : (k : ℕ) → level_refusal_by (header_checks file) file k ≡ level_refusal_by head file k
  level-same-by k =
      level_by (header_checks file) file tt k
      ∙ ap (λ (n : ℕ). cond (eqb n 0) (first_of (level.own_checks file (levels_in file) k)) n) (said_same (ktx_header_checks file))
      ∙ sym (level_by head file t k)

  level-same : (k : ℕ) → level_refusal file k ≡ level_refusal_by head file k
  level-same k = level-today file k ∙ level-same-by k

  decode-same : (k room : ℕ) → decode_refusal file k room ≡ decode_refusal_by head file k room
  decode-same k room =
      decode-today file k room ∙ decode-by (header_checks file) file tt k room
      ∙ ap (λ (n : ℕ). cond (eqb n 0) (first_of (call_checks (picture_of file k) (length (data_of_level file k)) room)) n) (level-same-by k)
      ∙ sym (decode-by head file t k room)

  laid : (image image' out out' : List ℕ) (r : ℕ)
      → Converted file image image' out out' r ↔ Answered (program_refusal_by head file) (plate_of file) (level_data file) image image' out out' r
  laid image image' out out' r = both_ways (λ n. Answered n (plate_of file) (level_data file) image image' out out' r) program-same

  pub answered-by : AnsweredBy head file
  answered-by =
      record {
        header = λ r. both_ways (λ n. HeaderAnswered n file r) e;
        reading = λ r.
            (λ a. record { refusal = a.refusal ∙ e; plate = a.plate }, λ b. record { refusal = b.refusal ∙ sym e; plate = b.plate });
        c-field = λ k. rw e refl;
        program = ap (λ (n : ℕ). written n (plate_of file) (level_data file)) program-same;
        laid = laid;
        laid-in-room = λ image image' out out' r room.
            let same = laid image image' out out' r in (
              λ a. same.0 (a.done room),
              λ b. record { done = λ _. same.1 b; too-little = λ q. absurd (false≢true (sym q ∙ room)) },
            );
        description = λ k r. both_ways (λ n. AnsweredLevel n (level_of file k) r) (level-same k);
        c-description = λ k field. ap (λ (n : ℕ). field_of n (described_field (level_of file k) field) field) (level-same k);
        picture = λ order k old new r. let n = decode-same k (length old) in (
          λ a. record { number = a.number ∙ n; words = rw n at a.words },
          λ b. record { number = b.number ∙ sym n; words = rw (sym n) at b.words },
        );
        c-picture = λ order k old new r. both_ways (λ n. Wrote n (with_level order file k old) old new r) (decode-same k (length old));
      }
