-- No two answers meet the promise of reading a header, nor that of decoding a file. Assumes nothing.
use Rattle.std.proofs.Common.{◌≡◌, ℕ, ◌≤◌, List, Ok, Err, Result, sym, refl, ap, ◌∙◌, arith}
use Rattle.facts.proofs.Said.{same-answer, same-said}
use Rattle.files.proofs.Fields.{same-depth}
use Rattle.files.specs.declared.Stored.{Stored}
use Rattle.pixel.specs.declared.ChannelOrder.{ChannelOrder}
use Rattle.ktx.specs.declared.HeaderRefusal.{HeaderRefusal}
use Rattle.ktx.specs.declared.Plate.{Plate}
use Rattle.ktx.specs.declared.Refusal.{Refusal}
use Rattle.ktx.specs.Header.{number_of, header_number, header_width, header_height, header_bits, header_payload, header_size_word, HeaderRead}
use Rattle.ktx.specs.Numbers.{number-above, own-number, same-refusal, reason-above, same-reason}
use Rattle.ktx.specs.Picture.{reason_number, decoded_number, KtxDecoded}
use Rattle.ktx.specs.Reading.{fields_number, fields_plate, FieldsRead}

-- the fields' reader has one answer
same-fields : (r s : Result Stored HeaderRefusal) → fields_number r ≡ fields_number s → fields_plate r ≡ fields_plate s → r ≡ s
same-fields = same-answer number_of number-above same-refusal fields_plate (λ _. refl)

pub one-fields : (file : List ℕ) (r s : Result Stored HeaderRefusal) → FieldsRead file r → FieldsRead file s → r ≡ s
one-fields file r s a b = same-fields r s (a.number ∙ sym b.number) (a.plate ∙ sym b.plate)

-- answers with the same number and the same values are the same
same-header : (r s : Result Plate HeaderRefusal) → header_number r ≡ header_number s → header_width r ≡ header_width s
    → header_height r ≡ header_height s → header_bits r ≡ header_bits s → header_payload r ≡ header_payload s → header_size_word r ≡ header_size_word s → r ≡ s
same-header (Ok p) (Ok q) n ew eh eb ea es =
    let e : p.is2bpp ≡ q.is2bpp = same-depth p.is2bpp q.is2bpp eb in
    ap Ok (λ i. record { width = ew i; height = eh i; is2bpp = e i; payload = ea i; size = es i })
same-header (Ok p) (Err g) n ew eh eb ea es = absurd (omega (arith, number-above g))
same-header (Err f) (Ok q) n ew eh eb ea es = absurd (omega (arith, number-above f))
same-header (Err f) (Err g) n ew eh eb ea es = ap Err (same-refusal f g n)

-- reading a header
pub one-header : (file : List ℕ) (r s : Result Plate HeaderRefusal) → HeaderRead file r → HeaderRead file s → r ≡ s
one-header file r s a b =
    same-header r s (a.number ∙ sym b.number) (a.width ∙ sym b.width) (a.height ∙ sym b.height) (a.bits ∙ sym b.bits)
    (a.payload ∙ sym b.payload) (a.size ∙ sym b.size)

-- a header's number is 31 to 37 and not 36
pub from-31 : (f : HeaderRefusal) → (31 ≤ number_of f) × ((number_of f ≡ 36) → ⊥)
from-31 f = (grind (arith, own-number f), λ e. grind (arith, own-number f, e))

-- a number tells the answer to decoding a file
pub same-decoded : (r s : Result (Unit {0}) Refusal) → decoded_number r ≡ decoded_number s → r ≡ s
same-decoded = same-said reason_number reason-above same-reason

-- decoding a file
pub one-decoded : {order : ChannelOrder} {file old new new' : List ℕ} {r s : Result (Unit {0}) Refusal} → KtxDecoded order file old new r
    → KtxDecoded order file old new' s → (r ≡ s) × (new ≡ new')
one-decoded {r = r} {s = s} a b = (same-decoded r s (a.number ∙ sym b.number), a.words ∙ sym b.words)
