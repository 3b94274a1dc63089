-- The orders in which a file is refused are those of documents 01 and 02. Assumes nothing.
use Rattle.std.proofs.Common.{◌≡◌, ℕ, List, [], ◌∷◌, ◌++◌, length, drop, sym, refl, ap, ◌∙◌}
use Rattle.facts.specs.Checks.{Check, check, first_of}
use Rattle.files.specs.Reading.{Says}
use Rattle.pvr.specs.Header as pvr
use Rattle.pvr.specs.Reading.{pvr_says}
use Rattle.convert.specs.Output.{picture_of, long_skipped, long_side, large_need, payload_checks, own_checks}
use Rattle.levels.specs.Levels.{pvr_levels, ktx_levels, level_at}
use Rattle.levels.specs.Refusals.{word_checks, size_word_checks}
use Rattle.levels.proofs.Answers.{pvr-checks, ktx-checks}
use Rattle.levels.proofs.Ranges.{as-pvr as as-pvr-levels, as-ktx as as-ktx-levels}
use Rattle.pvrtc.specs.Refusals.{zero_side}
use Rattle.convert.proofs.Either.{as-ktx, as-pvr}
use Rattle.demands.specs.Orders.{numbers_of, Orders}

-- the program's list by what a file says, and a PVR file's own
abbrev list_of : List ℕ → Says → List Check
list_of file s = s.refusals ++ own_checks s.plate (length (drop s.plate.payload file))

abbrev pvr_list_of : List ℕ → Says → List Check
pvr_list_of file s =
    let p = picture_of s.plate in
    pvr.header_checks file
    ++ (check (long_skipped s.plate) 21
    ∷ check (zero_side p) 1
    ∷ check (long_side p) 22
    ∷ check (large_need p) 23
    ∷ payload_checks p (length (drop s.plate.payload file)))

-- of a PVR file both say the same
same-list : (file : List ℕ) → first_of (list_of file (pvr_says file)) ≡ first_of (pvr_list_of file (pvr_says file))
unfolding first_of
same-list file = refl

-- a PVR level has no size word, and a KTX level one
pvr-words : (file : List ℕ) (k : ℕ) → size_word_checks file (pvr_levels file) k ≡ []
unfolding size_word_checks
pvr-words file k = refl

ktx-words : (file : List ℕ) (k : ℕ) → size_word_checks file (ktx_levels file) k ≡ word_checks file (level_at (ktx_levels file) k)
unfolding size_word_checks
ktx-words file k = refl

pub orders : (file : List ℕ) → Orders file
orders file =
    record {
      pvr-header = refl;
      ktx-header = refl;
      ktx-picture = λ room. refl;
      pvr-level = λ e k room. rw (pvr-checks file e, as-pvr-levels file e, pvr-words file k) refl;
      ktx-level = λ e k room. rw (ktx-checks file e, as-ktx-levels file e, ktx-words file k) refl;
      ktx-program = λ e. ap (λ (s : Says). numbers_of (list_of file s)) (as-ktx file e);
      pvr-program = λ e.
          ap (λ (s : Says). first_of (list_of file s)) (as-pvr file e) ∙ same-list file
          ∙ sym (ap (λ (s : Says). first_of (pvr_list_of file s)) (as-pvr file e));
      pvr-numbers = refl;
    }
