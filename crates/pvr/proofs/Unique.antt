-- No two answers meet the promise of reading a header. Assumes nothing.
use Rattle.std.proofs.Common.{◌≡◌, ℕ, ◌≤◌, List, Ok, Err, Result, sym, ap, ◌∙◌, arith}
use Rattle.files.proofs.Fields.{same-depth}
use Rattle.pvr.specs.declared.HeaderRefusal.{HeaderRefusal}
use Rattle.pvr.specs.Header.{number_of, header_number, header_width, header_height, header_bits, header_payload, HeaderRead}
use Rattle.pvr.specs.declared.Plate.{Plate}
use Rattle.pvr.specs.Numbers.{number-above, own-number, same-refusal}

-- it is 11 to 18
pub from-11 : (f : HeaderRefusal) → (11 ≤ number_of f) × (number_of f ≤ 18)
from-11 f = grind (arith, own-number f)

-- answers with the same number and the same values are the same
pub same-header : (r s : Result Plate HeaderRefusal) → header_number r ≡ header_number s → header_width r ≡ header_width s
    → header_height r ≡ header_height s → header_bits r ≡ header_bits s → header_payload r ≡ header_payload s → r ≡ s
same-header (Ok p) (Ok q) n ew eh eb ea = let e : p.is2bpp ≡ q.is2bpp = same-depth p.is2bpp q.is2bpp eb in
    ap Ok (λ i. record { width = ew i; height = eh i; is2bpp = e i; payload = ea i })
same-header (Ok p) (Err g) n ew eh eb ea = absurd (omega (arith, number-above g))
same-header (Err f) (Ok q) n ew eh eb ea = absurd (omega (arith, number-above f))
same-header (Err f) (Err g) n ew eh eb ea = ap Err (same-refusal f g n)

-- reading a header
pub one-header : (file : List ℕ) (r s : Result Plate HeaderRefusal) → HeaderRead file r → HeaderRead file s → r ≡ s
one-header file r s a b =
    same-header r s (a.number ∙ sym b.number) (a.width ∙ sym b.width) (a.height ∙ sym b.height) (a.bits ∙ sym b.bits)
    (a.payload ∙ sym b.payload)
