-- Type size, base format, levels, the key/value bytes and whatever follows level 0 have no effect on how a file is read. Assumes nothing.
use Rattle.std.proofs.Common.{◌≡◌, ℕ, ◌+◌, ◌<◌, ◌≤◌, Bool, true, false, cond, not, ◌&&◌, T, eqb, ltb, leb, List, [], ◌∷◌, ◌++◌, length, get_or, drop, Result}
use Rattle.std.proofs.Common.{sym, refl, ap, ◌∙◌, ap₂, arith, length-append, ltb-false, le-ltb, le-leb}
use lib.ListN.{get_or-append}
use borrow.Author.Tests.{lt-leb}
use Rattle.facts.specs.Checks.{check, first_of}
use Rattle.facts.specs.Finite.{all_below}
use Rattle.facts.proofs.Checks.{first-append}
use Rattle.facts.proofs.Order.{holds-here}
use Rattle.files.specs.Fields.{u32_at, bits_of, unless_refused}
use Rattle.files.proofs.Answers.{SameSays, SameHead}
use Rattle.files.proofs.Fields.{same-field, field-before, field-kept, rest-same}
use Rattle.files.proofs.Starts.{same_start}
use Rattle.paint.specs.Sheet.{on_sheet}
use Rattle.pixel.specs.declared.ChannelOrder.{ChannelOrder}
use Rattle.pvrtc.specs.Picture.{in_order, sheet_of, picture_texel}
use Rattle.pvrtc.specs.declared.Picture.{Picture}
use Rattle.ktx.specs.declared.HeaderRefusal.{HeaderRefusal}
use Rattle.ktx.specs.declared.Plate.{Plate}
use Rattle.ktx.specs.declared.Refusal.{Refusal}
use Rattle.ktx.specs.Header.{header_size, identifier, internal_format, has_two_bits, is_two, width_field, height_field}
use Rattle.ktx.specs.Header.{key_value_bytes, size_place, payload_offset}
use Rattle.ktx.specs.Header.{short_header, not_ktx, other_byte_order, unknown_format, not_one_plate, cut_short}
use Rattle.ktx.specs.Header.{field_checks, header_checks, header_refusal, HeaderRead}
use Rattle.ktx.specs.NoEffect.{is_ignored, SameButIgnored, SameFields, SameHeader}
use Rattle.ktx.specs.Picture.{plate_of, level_data, sized_checks, picture_refusal, KtxDecoded}
use Rattle.ktx.specs.Reading.{ktx_plate, ktx_says}

-- what lies past the fields is none of the ignored ones
past-fields : (i : ℕ) → header_size ≤ i → is_ignored i ≡ false
past-fields i h =
    let high : (n : ℕ) → n ≤ header_size → ltb i n ≡ false = λ n l. le-ltb i n (omega arith) in
    let low : (n : ℕ) → n ≤ header_size → leb n i ≡ true = λ n l. le-leb n i (omega arith) in
    simp (low 20 (omega arith), low 32 (omega arith), low 56 (omega arith), high 24 (omega arith), high 36 (omega arith), high 60 (omega arith))

-- two files with the same fields
module _ {f g : List ℕ} (s : SameFields f g) where
  -- a field none of whose bytes is ignored
  pub field : (at : ℕ) → at + 4 ≤ header_size → T (all_below (λ k. not (is_ignored (at + k))) 4) → u32_at f at ≡ u32_at g at
  field = field-kept f g is_ignored header_size s.bytes

  pub same_format : internal_format f ≡ internal_format g
  same_format = field 28 (omega arith) tt

  pub same-key-values : key_value_bytes f ≡ key_value_bytes g
  same-key-values = field 60 (omega arith) tt

  pub same_place : size_place f ≡ size_place g
  same_place = ap (λ (n : ℕ). header_size + n) same-key-values

  same-order : other_byte_order f ≡ other_byte_order g
  same-order = rw (field 12 (omega arith) tt)

  same-unknown : unknown_format f ≡ unknown_format g
  unfolding unknown_format
  same-unknown = rw (field 16 (omega arith) tt, field 24 (omega arith) tt, same_format)

  same-plates : not_one_plate f ≡ not_one_plate g
  unfolding not_one_plate
  same-plates = rw (field 44 (omega arith) tt, field 48 (omega arith) tt, field 52 (omega arith) tt)

  same-identifier : short_header f ≡ false → not_ktx f ≡ not_ktx g
  same-identifier e =
      let hf : header_size ≤ length f = ltb-false _ _ e in
      let hg : header_size ≤ length g = ltb-false _ _ (sym s.short ∙ e) in
      ap not
      (same_start f g identifier (omega arith) (omega arith)
      (λ i h. s.bytes i (omega arith) (simp (lt-leb 20 i (omega arith), lt-leb 32 i (omega arith), lt-leb 56 i (omega arith)))))

  -- so the fields refuse alike
  pub same-fields : first_of (field_checks f) ≡ first_of (field_checks g)
  same-fields = by (short_header f) refl
    where
      by : (t : Bool) → short_header f ≡ t → first_of (field_checks f) ≡ first_of (field_checks g)
      by true e = sym (holds-here _ 31 _ e) ∙ holds-here _ 31 _ (sym s.short ∙ e)
      by false e = rw (s.short, same-identifier e, same-order, same-unknown, same-plates)

-- equal pictures whose data has equal sizes are refused alike, and lay the same words
pub sized-alike : {p q : Picture} {s t len len' : ℕ} (room : ℕ) → p ≡ q → s ≡ t → len ≡ len'
    → first_of (sized_checks p s len room) ≡ first_of (sized_checks q t len' room)
sized-alike {q = q} {s} {t} {len} room ep es el =
    ap (λ (x : Picture). first_of (sized_checks x s len room)) ep
    ∙ ap₂ (λ (n m : ℕ). first_of (sized_checks q n m room)) es el

pub words-alike : {n m : ℕ} {p q : Picture} {d e : List ℕ} (old : List ℕ) → n ≡ m → p ≡ q → d ≡ e
    → cond (eqb n 0) (on_sheet (sheet_of p) (picture_texel p d) old) old ≡ cond (eqb m 0) (on_sheet (sheet_of q) (picture_texel q e) old) old
words-alike {m = m} {p} {q} {d} old en ep ed =
    ap (λ (n : ℕ). cond (eqb n 0) (on_sheet (sheet_of p) (picture_texel p d) old) old) en
    ∙ ap₂ (λ (x : Picture) (l : List ℕ). cond (eqb m 0) (on_sheet (sheet_of x) (picture_texel x l) old) old) ep ed

-- two files with the same header
module _ {f g : List ℕ} (s : SameHeader f g) where
  same-plate : ktx_plate f ≡ ktx_plate g
  same-plate =
      let fields = s.fields in
      rw (s.cut, s.size, field fields 36 (omega arith) tt, field fields 40 (omega arith) tt, same_format fields, same-key-values fields) refl

  -- say the same to the program
  pub same-says : SameSays (ktx_says f) (ktx_says g)
  same-says = record { number = same-fields s.fields; plate = same-plate }

  -- and so to everyone else: the header's number
  pub same_number : header_refusal f ≡ header_refusal g
  same_number =
      first-append (field_checks f) (check (cut_short f) 37 ∷ []) tt
      ∙ ap₂ (λ (n : ℕ) (t : Bool). cond (eqb n 0) (first_of (check t 37 ∷ [])) n) (same-fields s.fields) s.cut
      ∙ sym (first-append (field_checks g) (check (cut_short g) 37 ∷ []) tt)

  pub same_width : width_field f ≡ width_field g
  same_width = field s.fields 36 (omega arith) tt

  pub same-height : height_field f ≡ height_field g
  same-height = field s.fields 40 (omega arith) tt

  pub same-depth : is_two f ≡ is_two g
  same-depth = ap has_two_bits (same_format s.fields)

  pub same-payload : payload_offset f ≡ payload_offset g
  same-payload = ap (λ (n : ℕ). n + 4) (same_place s.fields)

  -- its answer
  pub no-effect : {r : Result Plate HeaderRefusal} → HeaderRead f r → HeaderRead g r
  no-effect p =
      record {
        number = p.number ∙ same_number;
        width = p.width ∙ ap₂ unless_refused same_number same_width;
        height = p.height ∙ ap₂ unless_refused same_number same-height;
        bits = p.bits ∙ ap₂ unless_refused same_number (ap bits_of same-depth);
        payload = p.payload ∙ ap₂ unless_refused same_number same-payload;
        size = p.size ∙ ap₂ unless_refused same_number s.size;
      }

  pub same-picture : plate_of f ≡ plate_of g
  same-picture = rw (same_width, same-height, same-depth) refl

  -- its picture's refusals, where the data has the same length
  pub same-refusal : length (level_data f) ≡ length (level_data g) → (room : ℕ) → picture_refusal f room ≡ picture_refusal g room
  same-refusal even room =
      first-append (header_checks f) _ tt
      ∙ ap₂ (λ (n m : ℕ). cond (eqb n 0) m n) same_number (sized-alike room same-picture s.size even)
      ∙ sym (first-append (header_checks g) _ tt)

  -- and where the data is the same, its picture
  pub same-decoded : level_data f ≡ level_data g → {order : ChannelOrder} {old new : List ℕ} {r : Result (Unit {0}) Refusal} → KtxDecoded order f old new r
      → KtxDecoded order g old new r
  same-decoded same-data {order} {old} a =
      let e = same-refusal (ap length same-data) (length old) in
      record { number = a.number ∙ e; words = a.words ∙ words-alike old e (ap (in_order order) same-picture) same-data }

pub header-turned : {f g : List ℕ} → SameHeader f g → SameHeader g f
header-turned {f} {g} s =
    let fields : SameFields g f = record { short = sym s.fields.short; bytes = λ i h e. sym (s.fields.bytes i h e) } in
    record {
      fields = fields;
      cut = sym s.cut;
      size = sym s.size;
    }

-- whatever follows the fields leaves what these say
module _ (file more : List ℕ) where
  longer : length file ≤ length (file ++ more)
  longer = omega (arith, length-append file more)

  byte : (i : ℕ) → i < length file → get_or (file ++ more) i 0 ≡ get_or file i 0
  byte i h = get_or-append file more 0 i h

  fields-before : header_size ≤ length file → SameFields (file ++ more) file
  fields-before h =
      let long : header_size ≤ length (file ++ more) = omega (arith, longer) in
      record { short = le-ltb _ _ long ∙ sym (le-ltb _ _ h); bytes = λ i l _. byte i (omega arith) }

  pub head-before : header_size ≤ length file → SameHead (ktx_says (file ++ more)) (ktx_says file)
  head-before h = let s = fields-before h in record { number = same-fields s; skipped = same-key-values s }

  -- and whatever follows the size word, all of the header
  pub header-before : payload_offset file ≤ length file → SameHeader (file ++ more) file
  header-before h =
      let fields : SameFields (file ++ more) file = fields-before (omega arith) in
      let same : key_value_bytes (file ++ more) ≡ key_value_bytes file = same-key-values fields in
      let there : payload_offset (file ++ more) ≤ length (file ++ more) = omega (arith, same, longer) in
      record {
        fields = fields;
        cut = le-ltb _ _ there ∙ sym (le-ltb _ _ h);
        size = ap (u32_at (file ++ more)) (same_place fields) ∙ field-before file more (size_place file) h;
      }

-- two files of one length that have the same fields and the same size word have the same header
pub of-one-length : (f g : List ℕ) → length f ≡ length g → ((i : ℕ) → i < header_size → is_ignored i ≡ false → get_or f i 0 ≡ get_or g i 0)
    → ((k : ℕ) → k < 4 → get_or f (size_place f + k) 0 ≡ get_or g (size_place f + k) 0) → SameHeader f g
of-one-length f g even bytes size =
    let fields : SameFields f g = record { short = ap (λ (n : ℕ). ltb n header_size) even; bytes = bytes } in
    let places : payload_offset f ≡ payload_offset g = ap (λ (n : ℕ). n + 4) (same_place fields) in
    record {
      fields = fields;
      cut = ap₂ ltb even places;
      size = same-field f g (size_place f) size ∙ ap (u32_at g) (same_place fields);
    }

-- so have two files that differ in ignored fields and key/value bytes alone
module _ {f g : List ℕ} (s : SameButIgnored f g) where
  past-ignored : (i : ℕ) → size_place f ≤ i → get_or f i 0 ≡ get_or g i 0
  past-ignored i h =
      s.bytes i (past-fields i (omega arith)) (simp (le-leb header_size i (omega arith), le-ltb i (size_place f) h))

  -- the identifier's bytes are none of the ignored ones
  pub first-kept : (i : ℕ) → i < 12 → get_or f i 0 ≡ get_or g i 0
  first-kept i h =
      s.bytes i (simp (lt-leb 20 i (omega arith), lt-leb 32 i (omega arith), lt-leb 56 i (omega arith)))
      (ap (λ (t : Bool). t && ltb i (size_place f)) (lt-leb header_size i (omega arith)))

  pub header-same : SameHeader f g
  header-same =
      of-one-length f g s.length-same (λ i h e. s.bytes i e (ap (λ (t : Bool). t && ltb i (size_place f)) (lt-leb header_size i h)))
      (λ k h. past-ignored (size_place f + k) (omega arith))

  -- and the same data
  pub data-same : level_data f ≡ level_data g
  data-same =
      rest-same f g (payload_offset f) s.length-same (λ i h. past-ignored i (omega arith))
      ∙ ap (λ (n : ℕ). drop n g) (same-payload header-same)
