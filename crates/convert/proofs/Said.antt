-- Which number the program says of a file, and how long its output is. Assumes nothing.
use Rattle.std.proofs.Common.{◌≡◌, ℕ, ◌+◌, ◌*◌, ◌/◌, ◌%◌, ◌<◌, ◌≤◌, Bool, true, false, cond, eqb, ltb, ◌↔◌, List, [], ◌∷◌, ◌++◌, length, take, sym, refl, ap}
use Rattle.std.proofs.Common.{◌∙◌, arith, eqb-true}
use borrow.Author.Tests.{eqb-false}
use Rattle.facts.specs.Checks.{first_of, Given}
use Rattle.facts.proofs.Checks.{first-append, both-none, exactly-when}
use Rattle.convert.specs.Output.{says_of, header_refusal, stored_in, plate_of, level_data, refused_text, refused_line, tga, output, Converted}
use Rattle.convert.specs.Output.{limit_checks, payload_checks, own_checks, program_checks, program_refusal}
use Rattle.convert.proofs.Answers.{written-line, written-tga}
use Rattle.convert.proofs.Either.{all-numbered}
use Rattle.convert.proofs.Front.{length-laid, in-front}
use Rattle.convert.proofs.Layouts.{picture-length}
use Rattle.convert.proofs.Limits.{own-number, kept, few_words}

-- each number is given exactly when its condition holds and no earlier one does
pub refused-when : (file : List ℕ) (n : ℕ) → 0 < n → (program_refusal file ≡ n) ↔ Given (program_checks file) n
refused-when file n h = exactly-when (program_checks file) n h

-- the header speaks first
pub header-first : (file : List ℕ)
    → program_refusal file
    ≡ cond (eqb (header_refusal file) 0) (first_of (own_checks (stored_in file) (length (level_data file)))) (header_refusal file)
header-first file =
    first-append (says_of file).refusals (own_checks (stored_in file) (length (level_data file))) (all-numbered file)

-- and the limits next: what is said before the data is asked
abbrev pub early : List ℕ → ℕ
early file = cond (eqb (header_refusal file) 0) (first_of (limit_checks (stored_in file))) (header_refusal file)

nested : (a b c : ℕ) → cond (eqb a 0) (cond (eqb b 0) c b) a ≡ cond (eqb (cond (eqb a 0) b a) 0) c (cond (eqb a 0) b a)
nested a b c = by (eqb a 0) refl
  where
    by : (t : Bool) → eqb a 0 ≡ t → cond t (cond (eqb b 0) c b) a ≡ cond (eqb (cond t b a) 0) c (cond t b a)
    by true e = refl
    by false e = rw e

pub early-first : (file : List ℕ)
    → program_refusal file ≡ cond (eqb (early file) 0) (first_of (payload_checks (plate_of file) (length (level_data file)))) (early file)
early-first file =
    header-first file
    ∙ ap (λ (n : ℕ). cond (eqb (header_refusal file) 0) n (header_refusal file)) (own-number (stored_in file) (length (level_data file)))
    ∙ nested (header_refusal file) (first_of (limit_checks (stored_in file))) (first_of (payload_checks (plate_of file) (length (level_data file))))

pub none-early : (file : List ℕ) → early file ≡ 0 → first_of (limit_checks (stored_in file)) ≡ 0
none-early file e = (both-none (header_refusal file) (first_of (limit_checks (stored_in file))) e).1

pub none_said : (file : List ℕ) → program_refusal file ≡ 0 → (early file ≡ 0) × (first_of (payload_checks (plate_of file) (length (level_data file))) ≡ 0)
none_said file e = both-none (early file) (first_of (payload_checks (plate_of file) (length (level_data file)))) (sym (early-first file) ∙ e)

-- the line of a refusal has 10 or 11 bytes
line-length : (n : ℕ) → length (refused_line n) ≤ 11
unfolding refused_line
line-length n = by (ltb n 10)
  where
    by : (t : Bool) → length (refused_text ++ (cond t ((48 + n) ∷ []) ((48 + n / 10) ∷ (48 + n % 10) ∷ []) ++ (0x0A ∷ []))) ≤ 11
    by true = omega arith
    by false = omega arith

-- no output has more than 524,306 bytes
pub output-fits : (file : List ℕ) → length (output file) ≤ 524306
output-fits file = by (eqb (program_refusal file) 0) refl
  where
    by : (t : Bool) → eqb (program_refusal file) 0 ≡ t → length (output file) ≤ 524306
    by true e =
        let none = none_said file (eqb-true (program_refusal file) 0 e) in
        let few = few_words (plate_of file) (kept (stored_in file) (none-early file none.0)).needed in
        let size : length (tga (plate_of file) (level_data file)) ≡ 18 + 4 * ((stored_in file).width * (stored_in file).height) = picture-length (plate_of file)
        (level_data file) in
        rw (written-tga (program_refusal file) (plate_of file) (level_data file) (eqb-true (program_refusal file) 0 e)) (omega (arith, size, few))
    by false e =
        let other : program_refusal file ≡ 0 → ⊥ = eqb-false (program_refusal file) 0 e in
        rw (written-line (program_refusal file) (plate_of file) (level_data file) (omega arith)) (omega (arith, line-length (program_refusal file)))

-- so it lies within lent bytes that are enough, and stands there from the first on
module _ (file : List ℕ) {image image' out out' : List ℕ} {r : ℕ} (a : Converted file image image' out out' r) (room : 524306 ≤ length out) where
  fits : length (output file) ≤ length out
  fits = omega (arith, output-fits file)

  pub within-out : r ≤ length out'
  within-out = omega (arith, a.size, output-fits file, ap length a.bytes, length-laid (output file) out fits)

  pub is-output : take r out' ≡ output file
  is-output = rw (a.size, a.bytes) (in-front (output file) out)
