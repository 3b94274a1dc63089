-- The levels of a file beside one another, and level 0 beside the plate. Assumes nothing.
use Rattle.std.proofs.Common.{◌≡◌, ℕ, ◌+◌, ◌<◌, ◌≤◌, Bool, true, false, cond, not, ◌&&◌, T, eqb, ltb, ◌↔◌, List, [], ◌∷◌, ◌++◌, length, get_or, drop, Ok, sym}
use Rattle.std.proofs.Common.{refl, ap, ◌∙◌, subst, ⊎_elim, arith, length-append, ltb-true, le-ltb, lt-ltb, eq-eqb, ne_eqb, eqb-true, le-leb}
use mathlib.Core.Bool.{false≢true}
use lib.ListN.{get_or-append}
use borrow.Author.Tests.{lt-leb, not-false}
use Rattle.facts.specs.Checks.{Check, check, first_of, numbered}
use Rattle.facts.proofs.Checks.{none_said, first-append, said-later}
use Rattle.facts.proofs.Lists.{choice}
use Rattle.facts.proofs.Numbers.{lt-or-le}
use Rattle.facts.proofs.Order.{holds-here}
use Rattle.files.specs.Fields.{u32_at, starts_with}
use Rattle.files.specs.Reading.{Says}
use Rattle.files.proofs.Answers.{numbers_pass, said-passes}
use Rattle.khronos.specs.Agrees.{Bytes}
use Rattle.pvr.specs.Header.{unknown_flags}
use Rattle.pvr.proofs.NoEffect as pvr-same
use Rattle.ktx.specs.Header as ktx
use Rattle.ktx.specs.Header.{ktx_bytes, is_ktx}
use Rattle.ktx.specs.Picture as ktx-picture
use Rattle.ktx.specs.Picture.{KtxDecoded}
use Rattle.ktx.proofs.Whole.{header-accepted}
use Rattle.levels.specs.Calls.{LevelDecoded}
use Rattle.levels.specs.Levels.{levels_in, plate_in, picture_of, size_word_bytes, start_at, level_data}
use Rattle.levels.specs.Inner.{Walks}
use Rattle.levels.specs.Ranges.{end_at, Reckoned}
use Rattle.levels.specs.Refusals.{header_checks, most_levels, too_many_levels, no_such_level, count_checks, size_word_checks, own_checks}
use Rattle.levels.specs.Refusals.{level_refusal, decode_refusal}
use Rattle.levels.specs.declared.Levels.{Levels}
use Rattle.levels.proofs.Answers.{numbered-header}
use Rattle.levels.proofs.Halving.{halving}
use Rattle.levels.proofs.Ranges.{file-ranges, allowed, as-pvr, as-ktx, picture-first, start-past, most-small, reckoned}
use Rattle.levels.proofs.Whole.{plate-small, not-too-many, one-of-them, as-block}
use Rattle.pixel.specs.declared.ChannelOrder.{ChannelOrder}
use Rattle.pvrtc.specs.Picture.{in_order}
use Rattle.pvrtc.specs.Refusals.{size_checks}
use Rattle.pvrtc.specs.declared.Call.TheVariants.{Block}
use Rattle.pvrtc.proofs.Accepted.{width_small, height-small}
use Rattle.pvrtc.proofs.Unique.{one_written}
use Rattle.convert.specs.Output as program
use Rattle.convert.proofs.Either as says
use Rattle.demands.specs.Footprint.{SameOutside}
use Rattle.demands.specs.Levels.{header_bytes, AlikeAt, SameButKeyValues, Placing, EachByItself, FirstLevel}
use Rattle.demands.specs.LocalCalls.{blocks_of, changed, most_touched}
use Rattle.demands.specs.LocalFiles.{DamagedAt, OnlyNear}
use Rattle.demands.specs.NoEffect.{SameButFlags}
use Rattle.demands.specs.Right.{by_level, by-program}
use Rattle.demands.proofs.Alike.{AlikeBefore, count-read, long-header, same-picture, same_start, same-refusal, same-level-of}
use Rattle.demands.proofs.LocalCalls.{local-pictures}
use Rattle.demands.proofs.LocalFiles.{only-near, in-front, other-blocks}
use Rattle.demands.proofs.NoEffect.{past-header}
use Rattle.demands.proofs.Seen.{seen, moved-block, decoded-block}

-- every level lies past the header
past-front : (file : List ℕ) (k : ℕ) → header_bytes file + size_word_bytes (levels_in file).sized ≤ start_at (levels_in file) k
past-front file k = by (is_ktx file) refl
  where
    front : (levels_in file).start + size_word_bytes (levels_in file).sized ≤ start_at (levels_in file) k
    front = start-past (levels_in file) k

    by : (t : Bool) → is_ktx file ≡ t → header_bytes file + size_word_bytes (levels_in file).sized ≤ start_at (levels_in file) k
    by true e = rw e (omega (arith, front, ap (λ (l : Levels). l.start) (as-ktx file e)))
    by false e = rw e (omega (arith, front, ap (λ (l : Levels). l.start) (as-pvr file e)))

-- damage in level j leaves the header, and the size words up to its own
module _ (f g : List ℕ) (j z : ℕ) (s : DamagedAt (start_at (levels_in f) j) f g z) where
  abbrev l : Levels
  l = levels_in f

  ends : (n : ℕ) → ltb (length f) n ≡ ltb (length g) n
  ends n = ap (λ (m : ℕ). ltb m n) s.size

  front : (i : ℕ) → i < header_bytes f → get_or f i 0 ≡ get_or g i 0
  front i h = in-front s i (omega (arith, past-front f j))

  same_flags : unknown_flags f ≡ unknown_flags g
  same_flags = pvr-same.same_flags f g (λ i h. front (4 + i) (omega (arith, long-header f)))

  before : AlikeBefore f g j
  before = record { ends = λ n _. ends n; header = λ i h _. front i h; flags = λ _. same_flags; word = λ i low high. in-front s i high }

  -- in level j the other blocks are as they were
  from-there : drop (start_at l j) g ≡ level_data g j
  from-there = ap (λ (n : ℕ). drop n g) (same_start before)

  others_same : SameOutside (blocks_of (picture_of f j)) (level_data f j) (level_data g j) z
  others_same =
      subst (λ (d : List ℕ). SameOutside (blocks_of (picture_of f j)) (level_data f j) d z) from-there (other-blocks s (blocks_of (picture_of f j)))

  near : (picture_of f j ≡ picture_of g j) × ((room : ℕ) → decode_refusal f j room ≡ decode_refusal g j room)
      × ((order : ChannelOrder) → OnlyNear (in_order order (picture_of f j)) (level_data f j) (level_data g j) z)
  near = (
    same-picture before,
    same-refusal before,
    λ order. only-near (in_order order (picture_of f j)) (level_data f j) (level_data g j) z others_same,
  )

  few : (order : ChannelOrder) (old new old' new' : List ℕ) → LevelDecoded order f j old new (Ok tt) → LevelDecoded order g j old' new' (Ok tt)
      → changed (picture_of f j) new new' ≤ most_touched (picture_of f j).is2bpp
  few order old new old' new' a b =
      let fb = as-block f j a in
      let gb = moved-block (sym (ap (in_order order) (same-picture before))) refl (as-block g j b) in
      let most = local-pictures (in_order order (picture_of f j)) (Block (length old)) (level_data f j) (sym fb.number) in
      omega (arith, most.no_more z (level_data f j) (level_data g j) old new old' new' others_same fb gb, most.at_most z)

  -- and all of any other level
  module _ (inside : z < blocks_of (picture_of f j)) (k : ℕ) (other : k ≡ j → ⊥) where
    kept : (i : ℕ) → start_at l k ≤ i + size_word_bytes l.sized → i < end_at l k → get_or f i 0 ≡ get_or g i 0
    kept i low high =
        ⊎_elim
        (λ less. s.before i (omega (arith, (file-ranges f).ranges.apart k j less)))
        (λ more. s.behind i (omega (arith, (file-ranges f).ranges.apart j k (omega (arith, more, other)))))
        (lt-or-le k j)

    elsewhere : AlikeAt f g k
    elsewhere = record { ends = λ n _. ends n; header = λ i h _. front i h; flags = λ _. same_flags; own = kept }

-- PVR's colour space and channel type are no part of what a level is read from, and known flags are read alike
flags-alike : (f g : List ℕ) → is_ktx f ≡ false → SameButFlags f g → (k : ℕ) → AlikeAt f g k
flags-alike f g e s k =
    let past = past-front f k in
    record {
      ends = λ n _. ap (λ (m : ℕ). ltb m n) s.size;
      header = λ i h u. s.bytes i (rw e at u);
      flags = λ _. s.flags;
      own = λ i low high. s.bytes i (past-header i (omega (arith, rw e at past)));
    }

-- nor are KTX's type size, base format and key/value bytes
key-values-alike : (f g : List ℕ) → is_ktx f ≡ true → SameButKeyValues f g → (k : ℕ) → AlikeAt f g k
key-values-alike f g e s k =
    let past = ((file-ranges f).of-ktx e).past k in
    let word : size_word_bytes (levels_in f).sized ≡ 4 = ap size_word_bytes ((file-ranges f).of-ktx e).sized in
    record {
      ends = λ n _. ap (λ (m : ℕ). ltb m n) s.size;
      header = λ i h u. s.bytes i (rw e at u) (ap (λ (t : Bool). t && ltb i (ktx.size_place f)) (lt-leb ktx.header_size i (rw e at h)));
      flags = λ q. absurd (false≢true (sym q ∙ e));
      own = λ i low high.
          let behind : ktx.size_place f ≤ i = omega arith in
          s.bytes i (count-read i (omega arith)) (simp (le-leb ktx.header_size i (omega arith), le-ltb i (ktx.size_place f) behind));
    }

-- nor is what follows it
later-alike : (file more : List ℕ) (k : ℕ) → end_at (levels_in file) k ≤ length file → AlikeAt file (file ++ more) k
later-alike file more k h =
    let longer = length-append file more in
    let byte : (i : ℕ) → i < length file → get_or file i 0 ≡ get_or (file ++ more) i 0 = λ i l. sym (get_or-append file more 0 i l) in
    record {
      ends = λ n l. le-ltb (length file) n (omega arith) ∙ sym (le-ltb (length (file ++ more)) n (omega (arith, longer)));
      header = λ i l _. byte i (omega (arith, past-front file k));
      flags = λ _. pvr-same.same_flags file (file ++ more) (λ i l. byte (4 + i) (omega (arith, past-front file k, long-header file)));
      own = λ i low high. byte i (omega arith);
    }

pub each-by-itself : EachByItself
each-by-itself =
    record {
      alike = λ f g k. same-level-of;
      later = λ file more k h. same-level-of (later-alike file more k h);
      flags = λ f g e s k. same-level-of (flags-alike f g e s k);
      key-values = λ f g e s k. same-level-of (key-values-alike f g e s k);
      others = λ f g j z s inside k other. same-level-of (elsewhere f g j z s inside k other);
      near = near;
      few = few;
    }

-- the first bytes of a file's first bytes are its first bytes
prefix : (file l m : List ℕ) → starts_with file (l ++ m) ≡ true → starts_with file l ≡ true
unfolding starts_with
prefix file [] m e = refl
prefix [] (b ∷ l) m e = e
prefix (a ∷ file) (b ∷ l) m e = by (eqb a b) e (prefix file l m)
  where
    by : (t : Bool) → (t && starts_with file (l ++ m)) ≡ true → (starts_with file (l ++ m) ≡ true → starts_with file l ≡ true)
        → (t && starts_with file l) ≡ true
    by true q rest = rest q
    by false q rest = q

-- so a file whose KTX header is accepted is taken as KTX
taken-as-ktx : (file : List ℕ) → ktx.header_refusal file ≡ 0 → is_ktx file ≡ true
taken-as-ktx file e =
    prefix file ktx_bytes (0x20 ∷ 0x31 ∷ 0x31 ∷ 0xBB ∷ 0x0D ∷ 0x0A ∷ 0x1A ∷ 0x0A ∷ []) (not-false _ (none_said (ktx.header_checks file) tt e 32))

-- level 0 is the plate
module _ (file : List ℕ) where
  plate : picture_of file 0 ≡ program.plate_of file
  plate = picture-first (levels_in file) ∙ by (is_ktx file) refl
    where
      by : (t : Bool) → is_ktx file ≡ t → plate_in (levels_in file) ≡ program.plate_of file
      by true e = ap plate_in (as-ktx file e) ∙ sym (ap (λ (t : Says). program.picture_of t.plate) (says.as-ktx file e))
      by false e = ap plate_in (as-pvr file e) ∙ sym (ap (λ (t : Says). program.picture_of t.plate) (says.as-pvr file e))

  plate-start : start_at (levels_in file) 0 ≡ (program.stored_in file).payload
  plate-start = by (is_ktx file) refl
    where
      by : (t : Bool) → is_ktx file ≡ t → start_at (levels_in file) 0 ≡ (program.stored_in file).payload
      by true e = ((file-ranges file).of-ktx e).first ∙ sym (ap (λ (t : Says). t.plate.payload) (says.as-ktx file e))
      by false e = ((file-ranges file).of-pvr e).first ∙ sym (ap (λ (t : Says). t.plate.payload) (says.as-pvr file e))

  plate-data : level_data file 0 ≡ program.level_data file
  plate-data = ap (λ (n : ℕ). drop n file) plate-start

  same-as-ktx : (order : ChannelOrder) (old new new' : List ℕ) → LevelDecoded order file 0 old new (Ok tt) → KtxDecoded order file old new' (Ok tt)
      → new ≡ new'
  same-as-ktx order old new new' a b =
      let e = taken-as-ktx file (header-accepted file (length old) (sym b.number)) in
      let there : ktx-picture.plate_of file ≡ picture_of file 0 = sym (picture-first (levels_in file) ∙ ap plate_in (as-ktx file e)) in
      let start : ktx.payload_offset file ≡ start_at (levels_in file) 0 = sym ((file-ranges file).of-ktx e).first in
      (one_written (as-block file 0 a) (moved-block (ap (in_order order) there) (ap (λ (n : ℕ). drop n file) start) (decoded-block file b))).1

  pub first-level : FirstLevel file
  first-level =
      record {
        plate = plate;
        plate-data = plate-data;
        by-ktx = same-as-ktx;
        by-program = λ old new a none x y hx hy.
            let p = program.plate_of file in
            let d = program.level_data file in
            (seen p d x y _ (by-program file refl refl none hx hy refl)).is ∙ sym (seen p d x y _ (by_level file 0 old new plate plate-data a hx hy refl)).is;
      }

-- a number that no check of a list has is not said
passes-not : (n : ℕ) (l : List Check) → T (numbers_pass (λ i. not (eqb i n)) l) → 0 < n → first_of l ≡ n → ⊥
passes-not n l other h e =
    let zero : not (eqb 0 n) ≡ true = ap not (ne_eqb 0 n (λ z. omega (arith, h))) in
    let same : not (eqb (first_of l) n) ≡ false = ap not (eq-eqb (first_of l) n e) in
    subst T same (said-passes (λ i. not (eqb i n)) l (subst T (sym zero) tt) other)

-- so where the first of two lists has it not, the second says it
not-said : (n : ℕ) (l m : List Check) → T (numbered l) → T (numbers_pass (λ i. not (eqb i n)) l) → 0 < n → first_of (l ++ m) ≡ n
    → (first_of l ≡ 0) × (first_of m ≡ n)
not-said n l m t other h e = by (eqb (first_of l) 0) refl (sym (first-append l m t) ∙ e)
  where
    by : (s : Bool) → eqb (first_of l) 0 ≡ s → cond s (first_of m) (first_of l) ≡ n → (first_of l ≡ 0) × (first_of m ≡ n)
    by true q z = (eqb-true (first_of l) 0 q, z)
    by false q z = absurd (passes-not n l other h z)

-- 20 is said by the number of levels alone
module _ (file : List ℕ) (k : ℕ) where
  none-is-20 : T (numbers_pass (λ i. not (eqb i 20)) (header_checks file))
  unfolding header_checks
  none-is-20 = choice (λ (l : List Check). T (numbers_pass (λ i. not (eqb i 20)) l)) (is_ktx file) (λ _. tt) (λ _. tt)

  no-word-is-20 : T (numbers_pass (λ i. not (eqb i 20)) (size_word_checks file (levels_in file) k))
  unfolding size_word_checks
  no-word-is-20 = choice (λ (l : List Check). T (numbers_pass (λ i. not (eqb i 20)) l)) (levels_in file).sized (λ _. tt) (λ _. tt)

  abbrev ls : Levels
  ls = levels_in file

  counted : (t : Bool) → too_many_levels ls ≡ t → first_of (count_checks ls k ++ size_word_checks file ls k) ≡ 20 → most_levels ls < ls.count
  unfolding first_of
  counted true q e = ltb-true (most_levels ls) ls.count q
  counted false q e = absurd (passes-not 20 (check (no_such_level ls k) 19 ∷ size_word_checks file ls k) no-word-is-20 (omega arith) (rw q at e))

  too_many : (level_refusal file k ≡ 20) ↔ ((first_of (header_checks file) ≡ 0) × (first_of (size_checks (plate_in ls)) ≡ 0) × (most_levels ls < ls.count))
  too_many = (
    λ e.
        let own = not-said 20 (header_checks file) (own_checks file ls k) (numbered-header file) none-is-20 (omega arith) e in
        let rest = not-said 20 (size_checks (plate_in ls)) (count_checks ls k ++ size_word_checks file ls k) tt tt (omega arith) own.1 in
        (own.0, rest.0, counted (too_many_levels ls) refl rest.1),
    λ c.
        sym (said-later (header_checks file) (own_checks file ls k) (numbered-header file) (sym c.0)
        (said-later (size_checks (plate_in ls)) (count_checks ls k ++ size_word_checks file ls k) tt (sym c.1)
        (holds-here _ 20 _ (lt-ltb (most_levels ls) ls.count c.2)))),
  )

-- a number of four bytes is below 2^32, so that levels start low
number-low : (file : List ℕ) → Bytes file → (at : ℕ) → u32_at file at < 4294967296
unfolding u32_at
number-low file b at = omega (arith, b at, b (at + 1), b (at + 2), b (at + 3))

start-low : (file : List ℕ) → Bytes file → (levels_in file).start < 4294967360
start-low file b = by (is_ktx file) refl
  where
    by : (t : Bool) → is_ktx file ≡ t → (levels_in file).start < 4294967360
    by true e = omega (arith, ap (λ (l : Levels). l.start) (as-ktx file e), number-low file b 60)
    by false e = omega (arith, ap (λ (l : Levels). l.start) (as-pvr file e), number-low file b 48)

-- a described level is one of seventeen
reckoned-at : (file : List ℕ) (k : ℕ) → Bytes file → level_refusal file k ≡ 0 → (k < 17) × Reckoned (levels_in file)
reckoned-at file k b none =
    let l = levels_in file in
    let small = plate-small file k none in
    let w : Walks l = record { wide = width_small (plate_in l) small; high = height-small (plate_in l) small; low = start-low file b } in
    (omega (arith, most-small l w, not-too-many file k none, one-of-them file k none), reckoned l w)

pub placing : Placing
placing =
    record {
      ranges = file-ranges;
      halving = halving;
      too_many = too_many;
      allowed = λ l e. allowed l (none_said (size_checks (plate_in l)) tt e 1);
      reckoned = reckoned-at;
    }
