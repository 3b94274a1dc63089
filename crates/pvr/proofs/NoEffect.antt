-- Colour space, channel type and whatever follows the header have no effect on how it is read, and known flags are read alike. Assumes nothing.
use Rattle.std.proofs.Common.{◌≡◌, ℕ, ◌+◌, ◌<◌, ◌≤◌, Bool, true, false, not, T, ltb, List, ◌++◌, length, get_or, Result, sym, refl, ap, ◌∙◌, arith}
use Rattle.std.proofs.Common.{length-append, ltb-false, le-ltb}
use lib.ListN.{get_or-append}
use borrow.Author.Tests.{lt-leb}
use Rattle.pvr.specs.declared.HeaderRefusal.{HeaderRefusal}
use Rattle.pvr.specs.declared.Plate.{Plate}
use Rattle.facts.specs.Finite.{all_below}
use Rattle.files.specs.Fields.{u32_at}
use Rattle.files.proofs.Answers.{SameSays}
use Rattle.files.proofs.Fields.{same-field, field-kept}
use Rattle.files.proofs.Starts.{same_start}
use Rattle.pvr.specs.Header.{version, header_size, known_flags, pixel_format, width_field, height_field, levels_field, metadata_size, payload_offset}
use Rattle.pvr.specs.Header.{short_header, not_pvr, unknown_flags, count_checks, header_refusal, HeaderRead}
use Rattle.pvr.specs.Reading.{pvr_says}
use Rattle.pvr.specs.NoEffect.{may_differ, SameHeader}
use Rattle.facts.proofs.Order.{holds-here}

-- files whose flags have the same bytes
pub same_flags : (f g : List ℕ) → ((k : ℕ) → k < 4 → get_or f (4 + k) 0 ≡ get_or g (4 + k) 0) → unknown_flags f ≡ unknown_flags g
same_flags f g e = ap (λ (n : ℕ). not (known_flags n)) (same-field f g 4 e)

-- files whose headers have the same bytes: files of one length, and files that both have the header whole
module _ (f g : List ℕ) (e : (i : ℕ) → i < header_size → get_or f i 0 ≡ get_or g i 0) where
  flags : unknown_flags f ≡ unknown_flags g
  flags = same_flags f g (λ k h. e (4 + k) (omega arith))

  pub of-one-length : length f ≡ length g → SameHeader f g
  of-one-length h = record { short = ap (λ (n : ℕ). ltb n header_size) h; flags = flags; bytes = λ i l _. e i l }

  of-whole : header_size ≤ length f → header_size ≤ length g → SameHeader f g
  of-whole hf hg = record { short = le-ltb _ _ hf ∙ sym (le-ltb _ _ hg); flags = flags; bytes = λ i l _. e i l }

module _ {f g : List ℕ} (s : SameHeader f g) where
  -- a field none of whose bytes may differ
  field : (at : ℕ) → at + 4 ≤ header_size → T (all_below (λ k. not (may_differ (at + k))) 4) → u32_at f at ≡ u32_at g at
  field = field-kept f g may_differ header_size s.bytes

  pub same_format : pixel_format f ≡ pixel_format g
  same_format = rw (field 8 (omega arith) tt, field 12 (omega arith) tt)

  pub same_width : width_field f ≡ width_field g
  same_width = field 28 (omega arith) tt

  pub same-height : height_field f ≡ height_field g
  same-height = field 24 (omega arith) tt

  pub same-levels : levels_field f ≡ levels_field g
  same-levels = field 44 (omega arith) tt

  pub same-payload : payload_offset f ≡ payload_offset g
  same-payload = ap (λ (n : ℕ). header_size + n) (field 48 (omega arith) tt)

  same-counts : count_checks f ≡ count_checks g
  same-counts =
      rw (
        field 32 (omega arith) tt,
        field 36 (omega arith) tt,
        field 40 (omega arith) tt,
        field 44 (omega arith) tt,
      )

  same_version : short_header f ≡ false → not_pvr f ≡ not_pvr g
  same_version e =
      let hf : header_size ≤ length f = ltb-false _ _ e in
      let hg : header_size ≤ length g = ltb-false _ _ (sym s.short ∙ e) in
      ap not
      (same_start f g version (omega arith) (omega arith)
      (λ i h. s.bytes i (omega arith) (simp (lt-leb 4 i h, lt-leb 16 i (omega arith), lt-leb 20 i (omega arith)))))

  pub same_number : header_refusal f ≡ header_refusal g
  same_number = by (short_header f) refl
    where
      by : (t : Bool) → short_header f ≡ t → header_refusal f ≡ header_refusal g
      by true e = sym (holds-here _ 11 _ e) ∙ holds-here _ 11 _ (sym s.short ∙ e)
      by false e = rw (s.short, same_version e, s.flags, same_format, same-counts)

  -- so they say the same to the program
  pub same-says : SameSays (pvr_says f) (pvr_says g)
  same-says =
      let metadata : metadata_size f ≡ metadata_size g = omega (arith, same-payload) in
      record { number = same_number; plate = rw (same_width, same-height, same_format, metadata) refl }

  pub no-effect : {r : Result Plate HeaderRefusal} → HeaderRead f r → HeaderRead g r
  no-effect p =
      record {
        number = p.number ∙ same_number;
        width = p.width ∙ rw (same_number, same_width);
        height = p.height ∙ rw (same_number, same-height);
        bits = p.bits ∙ rw (same_number, same_format);
        payload = p.payload ∙ rw (same_number, same-payload);
      }

-- and whatever follows a whole header leaves what it says
pub says-before : (file more : List ℕ) → header_size ≤ length file → SameSays (pvr_says (file ++ more)) (pvr_says file)
says-before file more h =
    same-says
    (of-whole (file ++ more) file (λ i l. get_or-append file more 0 i (omega arith)) (omega (arith, length-append file more)) h)
