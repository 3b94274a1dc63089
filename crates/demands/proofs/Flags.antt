-- A file with unknown flags is stopped, and nothing else is read otherwise than before. Assumes nothing.
use Rattle.std.proofs.Common.{ℕ, Bool, true, false, cond, not, ◌&&◌, T, List, length, sym, subst}
use Rattle.facts.specs.Checks.{Check, first_of}
use Rattle.facts.proofs.Lists.{choice}
use Rattle.files.proofs.Answers.{of_number, numbers_pass}
use Rattle.pvr.specs.AnyFlags.{any_flags_checks, any_flags_refusal, passes, StopsFlags}
use Rattle.pvr.specs.Header.{unknown_flags, header_checks}
use Rattle.pvr.proofs.AnyFlags.{passing, known_same, flags-stop, not_stopped, accepted, or_else}
use Rattle.pvr.proofs.OneNumber.{header-which, none-same}
use Rattle.ktx.specs.Header.{is_ktx}
use Rattle.levels.specs.Levels.{levels_in, picture_of, level_data as data_of_level}
use Rattle.levels.specs.Refusals as level
use Rattle.levels.specs.Refusals.{ktx_header_checks, size_word_checks, call_checks, level_refusal, decode_refusal}
use Rattle.convert.specs.Output.{stored_in, level_data, own_checks, program_refusal}
use Rattle.demands.specs.Before.{program_refusal_by, level_refusal_by, decode_refusal_by}
use Rattle.demands.specs.Flags.{has_unknown_flags, FlagsStop}
use Rattle.demands.proofs.Before.{said_by, ktx_said, program-today, level-today, decode-today, program-by, level_by, decode-by, answered-by}

module _ (file : List ℕ) where
  abbrev before : List Check
  before = any_flags_checks file

  -- the header of either kind, where `ktx` are the refusals of a KTX file's
  said : (ktx : List Check) → StopsFlags (has_unknown_flags file) (said_by ktx (header_checks file) file) (said_by ktx before file)
  said ktx = by (is_ktx file)
    where
      by : (t : Bool) → StopsFlags (not t && unknown_flags file) (first_of (cond t ktx (header_checks file))) (first_of (cond t ktx before))
      by true = known_same
      by false = flags-stop file

  -- the program's number, behind it
  program : StopsFlags (has_unknown_flags file) (program_refusal file) (program_refusal_by before file)
  program =
      let own : List Check = own_checks (stored_in file) (length (level_data file)) in
      rw (program-today file, program-by (header_checks file) file tt, program-by before file tt)
      (or_else (said (ktx_said file)) (first_of own) (passing own tt))

  -- a level's, which has a size word or not, and that of its picture
  words-pass : (k : ℕ) → T (numbers_pass passes (size_word_checks file (levels_in file) k))
  unfolding size_word_checks
  words-pass k = choice (λ (l : List Check). T (numbers_pass passes l)) (levels_in file).sized (λ _. tt) (λ _. tt)

  description-by : (k : ℕ) → StopsFlags (has_unknown_flags file) (level_refusal_by (header_checks file) file k) (level_refusal_by before file k)
  description-by k =
      let own : List Check = level.own_checks file (levels_in file) k in
      rw (level_by (header_checks file) file tt k, level_by before file tt k)
      (or_else (said (ktx_header_checks file)) (first_of own) (passing own (words-pass k)))

  description : (k : ℕ) → StopsFlags (has_unknown_flags file) (level_refusal file k) (level_refusal_by before file k)
  description k = rw (level-today file k) (description-by k)

  picture : (k room : ℕ) → StopsFlags (has_unknown_flags file) (decode_refusal file k room) (decode_refusal_by before file k room)
  picture k room =
      let own : List Check = call_checks (picture_of file k) (length (data_of_level file k)) room in
      rw (decode-today file k room, decode-by (header_checks file) file tt k room, decode-by before file tt k room)
      (or_else (description-by k) (first_of own) (passing own tt))

  pub stop : FlagsStop file
  stop =
      let head = flags-stop file in
      record {
        header = λ r p. subst (λ n. StopsFlags (unknown_flags file) n (any_flags_refusal file)) (sym p.number) head;
        reading = λ f a. subst (λ m. StopsFlags (unknown_flags file) m (any_flags_refusal file)) (of_number a) head;
        c-number = head;
        program = program;
        description = λ k r p. subst (λ n. StopsFlags (has_unknown_flags file) n (level_refusal_by before file k)) (sym p.number) (description k);
        c-description = description;
        picture = λ order k old new r p.
            subst (λ n. StopsFlags (has_unknown_flags file) n (decode_refusal_by before file k (length old))) (sym p.number) (picture k (length old));
        c-picture = λ order k old new n p.
            subst (λ m. StopsFlags (has_unknown_flags file) m (decode_refusal_by before file k (length old))) (sym p.number) (picture k (length old));
        same = λ none. answered-by before file tt (not_stopped head none);
        accepted = rw (← none-same (header-which file)) (accepted head);
      }
