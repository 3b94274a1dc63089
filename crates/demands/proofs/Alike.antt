-- Two files that are alike in what a level is read from have the same level. Assumes nothing.
use Rattle.std.proofs.Common.{◌≡◌, ℕ, ◌+◌, ◌-◌, ◌<◌, ◌≤◌, Bool, true, false, cond, ◌&&◌, eqb, ltb, leb, List, [], ◌∷◌, ◌++◌, length, get_or, drop, sym, refl}
use Rattle.std.proofs.Common.{ap, ◌∙◌, ap₂, ⊎_elim, arith, length-drop, get_or-drop, ltb-false, le-ltb, lt-ltb, le-leb}
use borrow.Author.Tests.{lt-leb}
use Rattle.facts.specs.Checks.{Check, check, first_of}
use Rattle.facts.proofs.Checks.{first-append}
use Rattle.facts.proofs.Lists.{choice}
use Rattle.facts.proofs.Numbers.{lt-or-le}
use Rattle.facts.proofs.Or.{or_left}
use Rattle.files.specs.Fields.{u32_at}
use Rattle.files.proofs.Fields.{same-field}
use Rattle.files.proofs.Starts.{start-alike}
use Rattle.pvr.specs.Header as pvr
use Rattle.pvr.specs.NoEffect as pvr-part
use Rattle.pvr.specs.NoEffect.{SameHeader}
use Rattle.pvr.proofs.NoEffect as pvr-same
use Rattle.ktx.specs.Header as ktx
use Rattle.ktx.specs.Header.{ktx_bytes, is_ktx}
use Rattle.ktx.specs.NoEffect as ktx-part
use Rattle.ktx.specs.NoEffect.{is_ignored, SameFields}
use Rattle.ktx.proofs.NoEffect as ktx-same
use Rattle.ktx.proofs.NoEffect.{words-alike}
use Rattle.paint.specs.Sheet.{on_sheet}
use Rattle.paint.proofs.Painted.{painted_same}
use Rattle.pixel.specs.declared.ChannelOrder.{ChannelOrder}
use Rattle.pvrtc.specs.Calls.{refusal}
use Rattle.pvrtc.specs.Picture.{in_order, sheet_of, picture_texel}
use Rattle.pvrtc.specs.Refusals.{need, short_data, size_checks, room_checks, grid_checks}
use Rattle.pvrtc.specs.declared.Call.TheVariants.{Block}
use Rattle.pvrtc.specs.declared.Picture.{Picture}
use Rattle.pvrtc.proofs.Accepted.{accepted}
use Rattle.pvrtc.proofs.Orders.{refusal-in}
use Rattle.levels.specs.Calls.{no_level}
use Rattle.levels.specs.Levels.{pvr_levels, ktx_levels, levels_in, plate_in, picture_at, need_at, size_word_bytes, start_at, level_at, level_of}
use Rattle.levels.specs.Levels.{picture_of, level_data}
use Rattle.levels.specs.Refusals.{header_checks, count_checks, word_cut, word_checks, size_word_checks, own_checks, level_checks, call_checks}
use Rattle.levels.specs.Refusals.{level_refusal, decode_refusal}
use Rattle.levels.specs.declared.Level.{Level}
use Rattle.levels.specs.declared.Levels.{Levels}
use Rattle.levels.proofs.Answers.{pvr-checks, ktx-checks, numbered-header}
use Rattle.levels.specs.Ranges.{end_at}
use Rattle.levels.proofs.Ranges.{as-pvr, as-ktx, start-past, need-above}
use Rattle.levels.proofs.Whole.{word-before, numbered-level, level-accepted, call-decides}
use Rattle.capi.specs.Level.{described_field}
use Rattle.capi.specs.Plate.{field_of}
use Rattle.demands.specs.Levels.{header_bytes, may_differ, AlikeAt, SameLevel}
use Rattle.demands.proofs.Needed.{texel-there}
use Rattle.demands.proofs.Past.{chosen}

-- two files with the same header but for what may differ: they end at one place, or both behind what stands before the levels
pub record AlikeFront (f g : List ℕ) : Type 0 where
  pub ends : (n : ℕ) → n ≤ (levels_in f).start → ltb (length f) n ≡ ltb (length g) n
  pub header : (i : ℕ) → i < header_bytes f → may_differ f i ≡ false → get_or f i 0 ≡ get_or g i 0
  pub flags : is_ktx f ≡ false → pvr.unknown_flags f ≡ pvr.unknown_flags g

-- and the same size word of level k: what its number is said by
pub record AlikeBefore (f g : List ℕ) (k : ℕ) : Type 0 where
  pub ends : (n : ℕ) → n ≤ end_at (levels_in f) k → ltb (length f) n ≡ ltb (length g) n
  pub header : (i : ℕ) → i < header_bytes f → may_differ f i ≡ false → get_or f i 0 ≡ get_or g i 0
  pub flags : is_ktx f ≡ false → pvr.unknown_flags f ≡ pvr.unknown_flags g
  pub word : let l = levels_in f in (i : ℕ) → start_at l k ≤ i + size_word_bytes l.sized → i < start_at l k → get_or f i 0 ≡ get_or g i 0

-- the first four bytes are read, and tell the kind
first_read : (t : Bool) (i : ℕ) → i < 4 → cond t (ktx-part.has_no_effect i) (pvr-part.may_differ i) ≡ false
first_read true i h = simp (lt-leb 20 i (omega arith), lt-leb 32 i (omega arith))
first_read false i h = simp (lt-leb 4 i h, lt-leb 16 i (omega arith), lt-leb 20 i (omega arith))

-- of KTX's fields, those that its other readers do not ignore are read
fields_read : (i : ℕ) → is_ignored i ≡ false → ktx-part.has_no_effect i ≡ false
fields_read i u = or_left (ktx-part.has_no_effect i) (leb 56 i && ltb i 60) u

-- and so are the levels, and what follows them
pub count-read : (i : ℕ) → 56 ≤ i → ktx-part.has_no_effect i ≡ false
count-read i h = simp (le-leb 20 i (omega arith), le-leb 32 i (omega arith), le-ltb i 24 (omega arith), le-ltb i 36 (omega arith))

-- levels start behind either header
start-high : (file : List ℕ) → pvr.header_size ≤ (levels_in file).start
start-high file = by (is_ktx file) refl
  where
    by : (t : Bool) → is_ktx file ≡ t → pvr.header_size ≤ (levels_in file).start
    by true e = omega (arith, ap (λ (l : Levels). l.start) (as-ktx file e))
    by false e = omega (arith, ap (λ (l : Levels). l.start) (as-pvr file e))

pub long-header : (file : List ℕ) → 52 ≤ header_bytes file
long-header file = choice (λ (n : ℕ). 52 ≤ n) (is_ktx file) (λ _. omega arith) (λ _. omega arith)

module _ {f g : List ℕ} (s : AlikeFront f g) where
  same_kind : is_ktx f ≡ is_ktx g
  same_kind = start-alike f g ktx_bytes (s.ends 4 (omega (arith, start-high f))) (λ i h. s.header i (omega (arith, long-header f)) (first_read (is_ktx f) i h))

  -- a PVR header
  module _ (e : is_ktx f ≡ false) where
    pvr-header : SameHeader f g
    pvr-header =
        record { short = s.ends pvr.header_size (start-high f); flags = s.flags e; bytes = λ i h u. s.header i (rw e h) (rw e u) }

    pvr-levels : levels_in f ≡ levels_in g
    pvr-levels =
        let h = pvr-header in
        let same : pvr_levels f ≡ pvr_levels g =
        rw (pvr-same.same_width h, pvr-same.same-height h, pvr-same.same_format h, pvr-same.same-levels h, pvr-same.same-payload h) refl in
        as-pvr f e ∙ same ∙ sym (as-pvr g (sym same_kind ∙ e))

    pvr-number : first_of (header_checks f) ≡ first_of (header_checks g)
    pvr-number =
        ap first_of (pvr-checks f e) ∙ pvr-same.same_number pvr-header ∙ sym (ap first_of (pvr-checks g (sym same_kind ∙ e)))

  -- a KTX header
  module _ (e : is_ktx f ≡ true) where
    there : (levels_in f).start ≡ ktx.size_place f
    there = ap (λ (l : Levels). l.start) (as-ktx f e)

    ktx-fields : SameFields f g
    ktx-fields = record { short = s.ends ktx.header_size (omega (arith, there)); bytes = λ i h u. s.header i (rw e h) (rw e (fields_read i u)) }

    ktx-count : ktx.level_count f ≡ ktx.level_count g
    ktx-count =
        let same : ktx.levels_field f ≡ ktx.levels_field g =
        same-field f g 56 (λ j h. s.header (56 + j) (rw e (omega arith)) (rw e (count-read (56 + j) (omega arith)))) in
        rw same refl

    ktx-levels : levels_in f ≡ levels_in g
    ktx-levels =
        let h = ktx-fields in
        let same : ktx_levels f ≡ ktx_levels g =
        rw (ktx-same.field h 36 (omega arith) tt, ktx-same.field h 40 (omega arith) tt, ktx-same.same_format h, ktx-count, ktx-same.same_place h) refl in
        as-ktx f e ∙ same ∙ sym (as-ktx g (sym same_kind ∙ e))

    ktx-number : first_of (header_checks f) ≡ first_of (header_checks g)
    ktx-number =
        let cut : ktx.key_values_cut f ≡ ktx.key_values_cut g =
        s.ends (ktx.size_place f) (omega (arith, there)) ∙ ap (ltb (length g)) (ktx-same.same_place ktx-fields) in
        ap first_of (ktx-checks f e)
        ∙ first-append (ktx.field_checks f) (check (ktx.key_values_cut f) 37 ∷ []) tt
        ∙ ap₂ (λ (n : ℕ) (t : Bool). cond (eqb n 0) (first_of (check t 37 ∷ [])) n) (ktx-same.same-fields ktx-fields) cut
        ∙ sym (first-append (ktx.field_checks g) (check (ktx.key_values_cut g) 37 ∷ []) tt)
        ∙ sym (ap first_of (ktx-checks g (sym same_kind ∙ e)))

  -- of either kind: what the file says of its levels, and the header's number
  pub same-levels : levels_in f ≡ levels_in g
  same-levels = by (is_ktx f) refl
    where
      by : (t : Bool) → is_ktx f ≡ t → levels_in f ≡ levels_in g
      by true e = ktx-levels e
      by false e = pvr-levels e

  pub same-header : first_of (header_checks f) ≡ first_of (header_checks g)
  same-header = by (is_ktx f) refl
    where
      by : (t : Bool) → is_ktx f ≡ t → first_of (header_checks f) ≡ first_of (header_checks g)
      by true e = ktx-number e
      by false e = pvr-number e

-- the size word has no other effect than by what it says
same-words : (f g : List ℕ) (l : Levels) (k : ℕ) → word_cut f (level_at l k) ≡ word_cut g (level_at l k)
    → (l.sized ≡ true → u32_at f (start_at l k - 4) ≡ u32_at g (start_at l k - 4)) → size_word_checks f l k ≡ size_word_checks g l k
unfolding size_word_checks
same-words f g l k cut word = by l.sized refl
  where
    level : Level
    level = level_at l k

    by : (t : Bool) → l.sized ≡ t → cond t (word_checks f level) [] ≡ cond t (word_checks g level) []
    by true e = rw (cut, word e) refl
    by false e = refl

-- a level's data is short where the file ends before it does
short-is : (file : List ℕ) (k : ℕ) → short_data (picture_of file k) (length (level_data file k)) ≡ ltb (length file) (end_at (levels_in file) k)
short-is file k =
    let at : ℕ = start_at (levels_in file) k in
    let bytes : ℕ = need_at (levels_in file) k in
    let some : 0 < bytes = need-above (levels_in file) k in
    ⊎_elim
    (λ short. lt-ltb (length (level_data file k)) bytes (omega (arith, length-drop at file)) ∙ sym (lt-ltb (length file) (at + bytes) short))
    (λ long. le-ltb (length (level_data file k)) bytes (omega (arith, length-drop at file)) ∙ sym (le-ltb (length file) (at + bytes) long))
    (lt-or-le (length file) (at + bytes))

module _ {f g : List ℕ} {k : ℕ} (s : AlikeBefore f g k) where
  -- the level starts behind what stands before all levels
  front : AlikeFront f g
  front = record { ends = λ n h. s.ends n (omega (arith, start-past (levels_in f) k)); header = s.header; flags = s.flags }

  levels : levels_in f ≡ levels_in g
  levels = same-levels front

  -- the four bytes of the level's size word
  same_word : (levels_in f).sized ≡ true → u32_at f (start_at (levels_in f) k - 4) ≡ u32_at g (start_at (levels_in f) k - 4)
  same_word e =
      let l = levels_in f in
      let low : 4 ≤ start_at l k = word-before f l k e in
      same-field f g (start_at l k - 4) (λ j h. s.word (start_at l k - 4 + j) (omega (arith, ap size_word_bytes e)) (omega arith))

  own : first_of (own_checks f (levels_in f) k) ≡ first_of (own_checks g (levels_in g) k)
  own =
      ap (λ (w : List Check). first_of (size_checks (plate_in (levels_in f)) ++ (count_checks (levels_in f) k ++ w)))
      (same-words f g (levels_in f) k (s.ends (start_at (levels_in f) k) (omega arith)) same_word)
      ∙ ap (λ (l : Levels). first_of (own_checks g l k)) levels

  -- so the level is described alike
  pub same_number : level_refusal f k ≡ level_refusal g k
  same_number =
      first-append (header_checks f) (own_checks f (levels_in f) k) (numbered-header f)
      ∙ ap₂ (λ (h n : ℕ). cond (eqb h 0) n h) (same-header front) own
      ∙ sym (first-append (header_checks g) (own_checks g (levels_in g) k) (numbered-header g))

  pub same-level : level_of f k ≡ level_of g k
  same-level = ap (λ (l : Levels). level_at l k) levels

  pub same-picture : picture_of f k ≡ picture_of g k
  same-picture = ap (λ (l : Levels). picture_at l k) levels

  pub same_start : start_at (levels_in f) k ≡ start_at (levels_in g) k
  same_start = ap (λ (l : Levels). start_at l k) levels

  -- both have the level's bytes, or neither has
  pub same-short : short_data (picture_of f k) (length (level_data f k)) ≡ short_data (picture_of g k) (length (level_data g k))
  same-short =
      short-is f k ∙ s.ends (end_at (levels_in f) k) (omega arith) ∙ ap (λ (l : Levels). ltb (length g) (end_at l k)) levels ∙ sym (short-is g k)

  -- and is refused alike when it is decoded
  pub same-refusal : (room : ℕ) → decode_refusal f k room ≡ decode_refusal g k room
  same-refusal room =
      first-append (level_checks f k) (call_checks (picture_of f k) (length (level_data f k)) room) (numbered-level f k)
      ∙ ap₂ (λ (h n : ℕ). cond (eqb h 0) n h) same_number
      (ap₂ (λ (short : Bool) (p : Picture). first_of (check short 3 ∷ (room_checks p (Block room) ++ grid_checks p))) same-short same-picture)
      ∙ sym (first-append (level_checks g k) (call_checks (picture_of g k) (length (level_data g k)) room) (numbered-level g k))

-- two files that are alike in the level's bytes too
alike-before : {f g : List ℕ} {k : ℕ} → AlikeAt f g k → AlikeBefore f g k
alike-before s = record { ends = s.ends; header = s.header; flags = s.flags; word = λ i low high. s.own i low (omega arith) }

module _ {f g : List ℕ} {k : ℕ} (s : AlikeAt f g k) where
  abbrev p : Picture
  p = picture_of f k

  abbrev d : List ℕ
  d = level_data f k

  -- the data of g, from where f's level starts
  abbrev e : List ℕ
  e = drop (start_at (levels_in f) k) g

  from-there : e ≡ level_data g k
  from-there = ap (λ (n : ℕ). drop n g) (same_start (alike-before s))

  same_bytes : (i : ℕ) → i < need_at (levels_in f) k → get_or d i 0 ≡ get_or e i 0
  same_bytes i h =
      let at : ℕ = start_at (levels_in f) k in
      get_or-drop at f i 0 ∙ s.own (at + i) (omega arith) (omega arith) ∙ sym (get_or-drop at g i 0)

  -- where the level is decoded, each of its texels is the same
  same-texel : (order : ChannelOrder) (room : ℕ) → decode_refusal f k room ≡ 0
      → (x y : ℕ) → picture_texel (in_order order p) d x y ≡ picture_texel (in_order order p) e x y
  same-texel order room none =
      let ok : refusal p (Block room) d ≡ 0 = sym (call-decides f k (level-accepted f k room none) room) ∙ none in
      let enough : need p ≤ length d = ltb-false (length d) (need p) (accepted p (Block room) (length d) ok).enough in
      let short : short_data p (length e) ≡ false =
      ap₂ (λ (q : Picture) (n : ℕ). short_data q n) (same-picture (alike-before s)) (ap length from-there)
      ∙ sym (same-short (alike-before s)) ∙ (accepted p (Block room) (length d) ok).enough in
      texel-there (in_order order p) d e enough (ltb-false (length e) (need p) short) same_bytes (Block room) (refusal-in order p (Block room) d ∙ ok)

  same-written : (order : ChannelOrder) (old : List ℕ)
      → cond (eqb (decode_refusal f k (length old)) 0) (on_sheet (sheet_of p) (picture_texel (in_order order p) d) old) old
      ≡ cond (eqb (decode_refusal g k (length old)) 0)
      (on_sheet (sheet_of (picture_of g k)) (picture_texel (in_order order (picture_of g k)) (level_data g k)) old) old
  same-written order old =
      let w : ℕ = p.width in
      chosen (decode_refusal f k (length old)) _ (on_sheet (sheet_of p) (picture_texel (in_order order p) e) old) old
      (λ none. painted_same 0 w w p.height _ _ old (omega arith) (λ x y _ _. same-texel order (length old) none x y))
      ∙ words-alike old (same-refusal (alike-before s) (length old)) (ap (in_order order) (same-picture (alike-before s))) from-there

  pub same-level-of : SameLevel f g k
  same-level-of =
      let b = alike-before s in
      let n = same_number b in
      let given = ap₂ (λ (m : ℕ) (level : Level). cond (eqb m 0) level no_level) n (same-level b) in
      record {
        description = λ r. (
          λ a. record { number = a.number ∙ n; given = a.given ∙ given },
          λ a. record { number = a.number ∙ sym n; given = a.given ∙ sym given },
        );
        picture = λ order old new r. let m = same-refusal b (length old) in (
          λ a. record { number = a.number ∙ m; words = a.words ∙ same-written order old },
          λ a. record { number = a.number ∙ sym m; words = a.words ∙ sym (same-written order old) },
        );
        c-field = λ field. ap₂ (λ (m : ℕ) (level : Level). field_of m (described_field level field) field) n (same-level b);
        c-picture = λ order old new r. let m = same-refusal b (length old) in (
          λ a. record { number = a.number ∙ m; words = a.words ∙ same-written order old },
          λ a. record { number = a.number ∙ sym m; words = a.words ∙ sym (same-written order old) },
        );
      }
