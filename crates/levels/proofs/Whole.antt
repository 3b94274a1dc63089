-- From what a header, the plate's levels and a size word say to the promise for a level of a file. Assumes nothing.
use Rattle.std.proofs.Common.{◌≡◌, ℕ, ◌-◌, ◌<◌, ◌≤◌, min, true, false, T, eqb, List, [], ◌++◌, length, take, drop, Ok, Err, Result, sym, refl, ap, ◌∙◌, arith}
use Rattle.std.proofs.Common.{ltb-false, ne_eqb, leb-false}
use Rattle.facts.specs.Checks.{Check, first_of, numbered, condition}
use Rattle.facts.proofs.Checks.{none_said, neither-said, said-first, said-later, numbered-append}
use Rattle.facts.proofs.Lists.{choice}
use Rattle.facts.proofs.Order.{none_left}
use Rattle.files.proofs.Fields.{data_is}
use Rattle.pixel.specs.declared.ChannelOrder.{ChannelOrder}
use Rattle.pvrtc.specs.Calls.{refusal, BlockDecoded}
use Rattle.pvrtc.specs.Picture.{in_order}
use Rattle.pvrtc.specs.Refusals as call
use Rattle.pvrtc.specs.Refusals.{zero_side, large_side, outside, size_checks, checks}
use Rattle.pvrtc.specs.declared.Call.TheVariants.{Block}
use Rattle.pvrtc.specs.declared.Refusal.{Refusal as CallRefusal}
use Rattle.pvrtc.specs.declared.Picture.{Picture}
use Rattle.pvrtc.proofs.Accepted.{width_small, height-small, width_above, height-above}
use Rattle.pvrtc.proofs.Orders.{refusal-in}
use Rattle.levels.specs.declared.Level.{Level}
use Rattle.levels.specs.declared.Levels.{Levels}
use Rattle.levels.specs.declared.Refusal.{Refusal}
use Rattle.levels.specs.Calls.{Answered, LevelRead, LevelDecoded}
use Rattle.levels.specs.Inner.{LevelsFound, Walks, picture_for, DecodedAt}
use Rattle.levels.specs.Levels.{levels_in, plate_in, size_word_bytes, start_at, level_at, level_of, picture_of, level_data}
use Rattle.levels.specs.Refusals.{most_levels, header_checks, count_checks, word_checks, size_word_checks, own_checks, level_checks, call_checks}
use Rattle.levels.specs.Refusals.{level_refusal, decode_refusal, number_of, decoded_number, Says}
use Rattle.levels.specs.Numbers.{number-above}
use Rattle.levels.proofs.Answers.{of-levels, numbered-header}
use Rattle.levels.proofs.Halving.{halved-above, halved-small}
use Rattle.levels.proofs.Ranges.{not-large, most-small, start-past}

-- where a picture's sides are accepted, the block call's other refusals decide
call-speaks : (p : Picture) (len room : ℕ) → zero_side p ≡ false → large_side p ≡ false
    → first_of (checks p (Block room) len) ≡ first_of (call_checks p len room)
unfolding first_of outside
call-speaks p len room sides small = simp (sides, small)

-- the picture and the data of a call may be replaced by equal ones
moved : {p q : Picture} {d e old new : List ℕ} {s : Result (Unit {0}) CallRefusal} → p ≡ q → d ≡ e → BlockDecoded p d old new s → BlockDecoded q e old new s
moved ep ed b = rw (← ep, ← ed) b

-- the block call on what the file has from the level's start on
pub decoded-at : {order : ChannelOrder} (file : List ℕ) (level : Level) {start : ℕ} {p : Picture} {old new : List ℕ}
    {s : Result (Unit {0}) CallRefusal} {r : Result (Unit {0}) Refusal}
    → start ≡ min level.start (length file) → p ≡ in_order order (picture_for level)
    → BlockDecoded p (take (length file - start) (drop start file)) old new s → decoded_number r ≡ call.decoded_number s
    → DecodedAt order file level old new r
decoded-at {order} file level {start} {p} {old} {new} {s} at ep b q =
    let d = drop level.start file in
    let c : BlockDecoded (in_order order (picture_for level)) d old new s = moved ep (data_is file start level.start at) b in
    let e = refusal-in order (picture_for level) (Block (length old)) d in
    record { number = q ∙ c.number ∙ e; words = rw (← e) c.words }

-- a description that refuses, and one that gives a level
module _ {n : ℕ} {level : Level} where
  pub by-refusal : {f : Refusal} → number_of f ≡ n → Answered n level (Err f)
  by-refusal {f} e =
      let other : eqb n 0 ≡ false = ne_eqb n 0 (omega (arith, number-above f)) in
      record { number = e; given = rw other refl }

  pub by_level : {m : Level} → 0 ≡ n → m ≡ level → Answered n level (Ok m)
  by_level e q = record { number = e; given = rw (← e) q }

  -- and what one gives that does not refuse
  pub of-level : {m : Level} → Answered n level (Ok m) → (0 ≡ n) × (m ≡ level)
  of-level a = (a.number, a.given ∙ rw (← a.number) refl)

-- where there are size words, the asked level's is read, and it has four bytes before the level
module _ (file : List ℕ) (l : Levels) (k : ℕ) where
  words_of : l.sized ≡ true → size_word_checks file l k ≡ word_checks file (level_at l k)
  unfolding size_word_checks
  words_of e = rw e refl

  no_words : l.sized ≡ false → size_word_checks file l k ≡ []
  unfolding size_word_checks
  no_words e = rw e refl

  pub numbered-words : T (numbered (size_word_checks file l k))
  unfolding size_word_checks
  numbered-words = choice (λ (m : List Check). T (numbered m)) l.sized (λ _. tt) (λ _. tt)

  pub word-before : l.sized ≡ true → 4 ≤ start_at l k
  word-before e = omega (arith, start-past l k, ap size_word_bytes e)

-- the plate's levels speak first, then the size word
module _ (file : List ℕ) (l : Levels) (k : ℕ) where
  abbrev first : List Check
  first = size_checks (plate_in l) ++ count_checks l k

  abbrev Own : Result Level Refusal → Type 0
  Own d = Answered (first_of (own_checks file l k)) (level_at l k) d

  pub by-levels : {f : Refusal} → Says (Err f) first → Own (Err f)
  by-levels {f} says = by-refusal (said-first first (size_word_checks file l k) tt says (number-above f))

  module _ (none : Says (Ok tt) first) where
    refused_none : (n : ℕ) → condition first n ≡ false
    refused_none = none_said first tt (sym none)

    -- the level is one of at most seventeen
    pub walks : l.start < 4294967360 → Walks l
    walks low =
        let small : large_side (plate_in l) ≡ false = refused_none 2 in
        record { wide = width_small (plate_in l) small; high = height-small (plate_in l) small; low = low }

    pub few : l.start < 4294967360 → k < 17
    few low = omega (arith, most-small l (walks low), ltb-false (most_levels l) l.count (refused_none 20), leb-false l.count k (refused_none 19))

    module _ {m : Level} (is : m ≡ level_at l k) where
      pub unsized : l.sized ≡ false → Own (Ok m)
      unsized e = by_level (said-later first (size_word_checks file l k) tt none (rw (no_words file l k e) none_left)) is

      module _ (sized : l.sized ≡ true) where
        from-word : {n : ℕ} → n ≡ first_of (word_checks file m) → n ≡ first_of (own_checks file l k)
        from-word word =
            said-later first (size_word_checks file l k) tt none
            (word ∙ ap (λ (c : Level). first_of (word_checks file c)) is ∙ ap first_of (sym (words_of file l k sized)))

        pub by_word : {f : Refusal} → Says (Err f) (word_checks file m) → Own (Err f)
        by_word word = by-refusal (from-word word)

        pub past_word : Says (Ok tt) (word_checks file m) → Own (Ok m)
        past_word word = by_level (from-word word) is

-- where the header refuses nothing, it is these that speak
module _ (file : List ℕ) (k : ℕ) where
  own-speaks : 0 ≡ first_of (header_checks file) → first_of (own_checks file (levels_in file) k) ≡ level_refusal file k
  own-speaks e = said-later (header_checks file) (own_checks file (levels_in file) k) (numbered-header file) e refl

  pub by-header : {f : Refusal} → LevelsFound file (Err f) → LevelRead file k (Err f)
  by-header {f} b = by-refusal (said-first (header_checks file) _ (numbered-header file) b.number (number-above f))

  pub by-own : {l : Levels} {d : Result Level Refusal} → LevelsFound file (Ok l) → Answered (first_of (own_checks file l k)) (level_at l k) d
      → LevelRead file k d
  by-own b a =
      let got = of-levels b in
      rw (own-speaks got.0) at (rw got.1 at a)

-- the refusals of a level, and what follows from none of them
module _ (file : List ℕ) (k : ℕ) where
  pub numbered-level : T (numbered (level_checks file k))
  numbered-level = numbered-append (header_checks file) _ (numbered-header file) (numbered-words file (levels_in file) k)

  module _ (none : level_refusal file k ≡ 0) where
    abbrev l : Levels
    l = levels_in file

    own-none : first_of (own_checks file l k) ≡ 0
    own-none = (neither-said (header_checks file) (own_checks file l k) (numbered-header file) none).1

    none_of : (n : ℕ) → condition (size_checks (plate_in l) ++ count_checks l k) n ≡ false
    none_of =
        let before : List Check = size_checks (plate_in l) ++ count_checks l k in
        none_said before tt (neither-said before (size_word_checks file l k) tt own-none).0

    pub plate-sides : zero_side (plate_in l) ≡ false
    plate-sides = none_of 1

    pub plate-small : large_side (plate_in l) ≡ false
    plate-small = none_of 2

    -- there are no more levels than the sides allow, and it is one of them
    pub not-too-many : l.count ≤ most_levels l
    not-too-many = ltb-false (most_levels l) l.count (none_of 20)

    pub one-of-them : k < l.count
    one-of-them = leb-false l.count k (none_of 19)

    -- its own sides are accepted too
    pub level-sides : zero_side (picture_of file k) ≡ false
    level-sides =
        let w = halved-above k l.width (width_above (plate_in l) plate-sides) in
        let h = halved-above k l.height (height-above (plate_in l) plate-sides) in
        rw (ne_eqb (picture_of file k).width 0 (omega arith), ne_eqb (picture_of file k).height 0 (omega arith)) refl

    pub level-small : large_side (picture_of file k) ≡ false
    level-small =
        not-large (picture_of file k) (halved-small k l.width 65536 (omega arith) (width_small (plate_in l) plate-small))
        (halved-small k l.height 65536 (omega arith) (height-small (plate_in l) plate-small))

    -- so it is the block call that speaks
    pub call-decides : (room : ℕ) → decode_refusal file k room ≡ refusal (picture_of file k) (Block room) (level_data file k)
    call-decides room =
        sym (said-later (level_checks file k) (call_checks (picture_of file k) (length (level_data file k)) room) numbered-level (sym none)
        (call-speaks (picture_of file k) (length (level_data file k)) room level-sides level-small))

  -- a level that is decoded is described, and its picture is the block call's
  pub level-accepted : (room : ℕ) → decode_refusal file k room ≡ 0 → level_refusal file k ≡ 0
  level-accepted room e = (neither-said (level_checks file k) (call_checks (picture_of file k) (length (level_data file k)) room) numbered-level e).0

  pub as-block : {order : ChannelOrder} {old new : List ℕ} → LevelDecoded order file k old new (Ok tt)
      → BlockDecoded (in_order order (picture_of file k)) (level_data file k) old new (Ok tt)
  as-block {order} {old} a =
      let room = length old in
      let speaks =
      call-decides (level-accepted room (sym a.number)) room ∙ sym (refusal-in order (picture_of file k) (Block room) (level_data file k)) in
      record { number = a.number ∙ speaks; words = rw (← speaks) a.words }

  -- from a description to the level's picture
  pub not-described : {old : List ℕ} {order : ChannelOrder} {f : Refusal} → LevelRead file k (Err f) → LevelDecoded order file k old old (Err f)
  not-described {old} {f = f} a =
      let number : number_of f ≡ decode_refusal file k (length old) = said-first (level_checks file k) _ numbered-level a.number (number-above f) in
      let other : eqb (decode_refusal file k (length old)) 0 ≡ false = ne_eqb (decode_refusal file k (length old)) 0 (omega (arith, number-above f)) in
      record { number = number; words = rw other refl }

  pub as-described : {old : List ℕ} {order : ChannelOrder} {level : Level} {new : List ℕ} {r : Result (Unit {0}) Refusal} → LevelRead file k (Ok level)
      → DecodedAt order file level old new r
      → LevelDecoded order file k old new r
  as-described {old} {order} {level} {new} {r} a b =
      let got = of-level a in
      let speaks = call-decides (sym got.0) (length old) in
      let c : DecodedAt order file (level_of file k) old new r = rw got.1 at b in
      record { number = c.number ∙ sym speaks; words = rw speaks c.words }
