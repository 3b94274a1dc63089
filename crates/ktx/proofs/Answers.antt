-- How the promise of reading a header is met, and what it gives. Assumes nothing.
use Rattle.std.proofs.Common.{◌≡◌, ℕ, ◌<◌, false, eqb, ◌↔◌, List, [], ◌∷◌, Ok, Err, Result, sym, refl, ap, ◌∙◌, arith, ne_eqb}
use Rattle.facts.specs.Checks.{Given, check, first_of}
use Rattle.facts.proofs.Checks.{exactly-when, said-first, said-later}
use Rattle.files.specs.Fields.{bits_of}
use Rattle.files.specs.declared.Stored.{Stored}
use Rattle.files.proofs.Fields.{same-depth}
use Rattle.ktx.specs.declared.HeaderRefusal.{HeaderRefusal}
use Rattle.ktx.specs.declared.Plate.{Plate}
use Rattle.ktx.specs.Header.{width_field, height_field, is_two, payload_offset, size_word_of}
use Rattle.ktx.specs.Header.{field_checks, header_checks, header_refusal, number_of, header_number, HeaderRead}
use Rattle.ktx.specs.Numbers.{number-above}
use Rattle.ktx.specs.Reading.{ktx_plate, FieldsRead}

-- what an answered plate says: no refusal's condition holds, and its values are the header's
pub record PlateRead (file : List ℕ) (p : Plate) : Type 0 where
  pub accepted : header_refusal file ≡ 0
  pub width : p.width ≡ width_field file
  pub height : p.height ≡ height_field file
  pub depth : p.is2bpp ≡ is_two file
  pub payload : p.payload ≡ payload_offset file
  pub said : p.size ≡ size_word_of file

module _ {file : List ℕ} where
  pub by-refusal : {f : HeaderRefusal} → number_of f ≡ header_refusal file → HeaderRead file (Err f)
  by-refusal {f} e =
      let n : eqb (header_refusal file) 0 ≡ false = ne_eqb (header_refusal file) 0 (omega (arith, number-above f)) in
      record { number = e; width = rw n; height = rw n; bits = rw n; payload = rw n; size = rw n }

  module _ {p : Plate} where
    pub by-plate : PlateRead file p → HeaderRead file (Ok p)
    by-plate r =
        let e = r.accepted in
        record {
          number = sym e;
          width = rw e r.width;
          height = rw e r.height;
          bits = rw e (ap bits_of r.depth);
          payload = rw e r.payload;
          size = rw e r.said;
        }

    pub of-plate : HeaderRead file (Ok p) → PlateRead file p
    of-plate r =
        let e : header_refusal file ≡ 0 = sym r.number in
        record {
          accepted = e;
          width = rw e at r.width;
          height = rw e at r.height;
          depth = same-depth p.is2bpp (is_two file) (rw e at r.bits);
          payload = rw e at r.payload;
          said = rw e at r.size;
        }

-- what the fields' reader answers
module _ (file : List ℕ) where
  -- leads to the header's answer
  pub by-fields : {f : HeaderRefusal} → FieldsRead file (Err f) → HeaderRead file (Err f)
  by-fields {f} a = by-refusal (said-first (field_checks file) _ tt a.number (number-above f))

  module _ {s : Stored} (a : FieldsRead file (Ok s)) where
    pub none : 0 ≡ first_of (field_checks file)
    none = a.number

    pub is-plate : s ≡ ktx_plate file
    is-plate = a.plate ∙ rw (← none) refl

    -- past the fields, whether the plate is cut short is what is said
    pub by-cut : {n : ℕ} → n ≡ first_of (check s.cut 37 ∷ []) → n ≡ header_refusal file
    by-cut e =
        said-later (field_checks file) _ tt none (e ∙ ap (λ (s : Stored). first_of (check s.cut 37 ∷ [])) is-plate)

-- each number is given exactly when its condition holds and no earlier one does
pub refused-when : {file : List ℕ} {r : Result Plate HeaderRefusal} → HeaderRead file r → (n : ℕ) → 0 < n → (header_number r ≡ n) ↔ Given (header_checks file) n
refused-when {file} p n h = rw p.number (exactly-when (header_checks file) n h)
