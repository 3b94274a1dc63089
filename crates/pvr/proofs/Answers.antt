-- How the promise of reading a header is met, and what it gives. Assumes nothing.
use Rattle.std.proofs.Common.{◌≡◌, ℕ, ◌<◌, false, eqb, ◌↔◌, List, Ok, Err, Result, sym, ap, arith, ne_eqb}
use Rattle.facts.specs.Checks.{Given}
use Rattle.facts.proofs.Checks.{exactly-when}
use Rattle.files.specs.Fields.{bits_of}
use Rattle.files.proofs.Fields.{same-depth}
use Rattle.pvr.specs.declared.HeaderRefusal.{HeaderRefusal}
use Rattle.pvr.specs.declared.Plate.{Plate}
use Rattle.pvr.specs.Numbers.{number-above}
use Rattle.pvr.specs.Header.{width_field, height_field, is_two, payload_offset, header_checks, header_refusal, number_of, header_number, HeaderRead}

-- what an answered plate says: no refusal's condition holds, and its values are the header's
pub record PlateRead (file : List ℕ) (p : Plate) : Type 0 where
  pub accepted : header_refusal file ≡ 0
  pub width : p.width ≡ width_field file
  pub height : p.height ≡ height_field file
  pub depth : p.is2bpp ≡ is_two file
  pub payload : p.payload ≡ payload_offset file

module _ {file : List ℕ} where
  pub by-refusal : {f : HeaderRefusal} → number_of f ≡ header_refusal file → HeaderRead file (Err f)
  by-refusal {f} e =
      let n : eqb (header_refusal file) 0 ≡ false = ne_eqb (header_refusal file) 0 (omega (arith, number-above f)) in
      record { number = e; width = rw n; height = rw n; bits = rw n; payload = rw n }

  module _ {p : Plate} where
    pub by-plate : PlateRead file p → HeaderRead file (Ok p)
    by-plate r =
        let e = r.accepted in
        record {
          number = sym e;
          width = rw e r.width;
          height = rw e r.height;
          bits = rw e (ap bits_of r.depth);
          payload = rw e r.payload;
        }

    pub of-plate : HeaderRead file (Ok p) → PlateRead file p
    of-plate r =
        let e : header_refusal file ≡ 0 = sym r.number in
        record {
          accepted = e;
          width = rw e at r.width;
          height = rw e at r.height;
          depth = same-depth p.is2bpp (is_two file) (rw e at r.bits);
          payload = rw e at r.payload;
        }

-- each number is given exactly when its condition holds and no earlier one does
pub refused-when : {file : List ℕ} {r : Result Plate HeaderRefusal} → HeaderRead file r → (n : ℕ) → 0 < n → (header_number r ≡ n) ↔ Given (header_checks file) n
refused-when {file} p n h = rw p.number (exactly-when (header_checks file) n h)
