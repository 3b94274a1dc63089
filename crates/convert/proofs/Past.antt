-- Bytes past level 0 have no effect on what is written, and none past the read limit has. Assumes nothing.
use Rattle.std.proofs.Common.{◌≡◌, ℕ, ◌+◌, ◌*◌, ◌/◌, ◌%◌, ◌<◌, ◌≤◌, Bool, true, false, cond, eqb, List, ◌++◌, length, take, drop, sym, refl, ap, ◌∙◌, subst}
use Rattle.std.proofs.Common.{ap₂, ⊎_elim, arith, length-append, length-drop, take-append-drop, length-take-le, take_all, ltb-false, le-ltb, lt-ltb, ne_eqb}
use Rattle.std.proofs.Common.{eqb-true}
use lib.Seq.{drop-append-le}
use borrow.Author.Tests.{eqb-false}
use Rattle.facts.specs.Checks.{first_of}
use Rattle.facts.proofs.Numbers.{lt-or-le}
use Rattle.facts.proofs.Order.{holds-here}
use Rattle.files.specs.Reading.{Says}
use Rattle.files.specs.declared.Stored.{Stored}
use Rattle.files.proofs.Answers.{SameSays, SameHead, head-same}
use Rattle.pvr.proofs.NoEffect as pvr
use Rattle.ktx.specs.Header.{header_size}
use Rattle.ktx.proofs.NoEffect as ktx
use Rattle.pvrtc.specs.declared.Call.TheVariants as call
use Rattle.pvrtc.specs.declared.Picture.{Picture}
use Rattle.pvrtc.specs.Calls.{refusal}
use Rattle.pvrtc.specs.Refusals.{need, short_data}
use Rattle.pvrtc.proofs.Past.{picture-past}
use Rattle.convert.specs.Output.{says_of, stored_in, picture_of, plate_of, level_data, skipped_limit, need_limit, read_limit}
use Rattle.convert.specs.Output.{limit_checks, payload_checks, own_checks, program_refusal, refused_line, written, output, EnoughRead}
use Rattle.convert.proofs.Answers.{tga-same, written-line, written-tga}
use Rattle.convert.proofs.Either.{as-ktx, either-before, payload-near, payload-behind}
use Rattle.convert.proofs.Limits.{kept, own_same, call-says}
use Rattle.convert.proofs.Said.{header-first, early, early-first, none-early, none_said}

-- a file, and more bytes behind it
module _ (file more : List ℕ) where
  -- where it has the header of either kind whole, its header says the same
  head-before : header_size ≤ length file → SameHead (says_of (file ++ more)) (says_of file)
  head-before h =
      either-before SameHead file more (omega arith) (λ _. ktx.head-before file more h) (λ _. head-same (pvr.says-before file more (omega arith)))

  -- where it reaches up to its data, all that it says is the same
  says-before : (stored_in file).payload ≤ length file → SameSays (says_of (file ++ more)) (says_of file)
  says-before h =
      either-before SameSays file more (omega (arith, payload-behind file))
      (λ e. ktx.same-says (ktx.header-before file more (subst (λ (s : Says). s.plate.payload ≤ length file) (as-ktx file e) h)))
      (λ e. pvr.says-before file more (omega (arith, payload-behind file)))

  -- a file that the header or a limit refuses
  refused-same : early (file ++ more) ≡ early file → 0 < early file → output (file ++ more) ≡ output file
  refused-same same above =
      let other : eqb (early file) 0 ≡ false = ne_eqb (early file) 0 (omega arith) in
      let here : program_refusal file ≡ early file = early-first file ∙ rw other in
      let there : program_refusal (file ++ more) ≡ early file =
      early-first (file ++ more)
      ∙ ap (λ (n : ℕ). cond (eqb n 0) (first_of (payload_checks (plate_of (file ++ more)) (length (level_data (file ++ more))))) n) same
      ∙ rw other in
      written-line (program_refusal (file ++ more)) (plate_of (file ++ more)) (level_data (file ++ more)) (omega arith)
      ∙ ap refused_line (there ∙ sym here)
      ∙ sym (written-line (program_refusal file) (plate_of file) (level_data file) (omega arith))

-- what is said before the data is asked, by the header's number and the plate
abbrev early_of : ℕ → Stored → ℕ
early_of n s = cond (eqb n 0) (first_of (limit_checks s)) n

-- it is the same where all that is said is, and where too much is skipped in both
early-same : (f g : List ℕ) → SameSays (says_of f) (says_of g) → early f ≡ early g
early-same f g s = ap₂ early_of s.number s.plate

early-skipped : (f g : List ℕ) → SameHead (says_of f) (says_of g) → skipped_limit < (stored_in f).skipped → early f ≡ early g
early-skipped f g s long =
    let here : 21 ≡ first_of (limit_checks (stored_in f)) = holds-here _ 21 _ (lt-ltb skipped_limit (stored_in f).skipped long) in
    let there : 21 ≡ first_of (limit_checks (stored_in g)) = holds-here _ 21 _ (lt-ltb skipped_limit (stored_in g).skipped (omega (arith, s.skipped))) in
    ap₂ (λ (n m : ℕ). cond (eqb n 0) m n) s.number (sym here ∙ there)

-- where level 0 of a file ends
abbrev pub level_end : List ℕ → ℕ
level_end file = (stored_in file).payload + need (plate_of file)

-- bytes past level 0 have no effect
module _ (file more : List ℕ) (enough : level_end file ≤ length file) where
  pub says_same : SameSays (says_of (file ++ more)) (says_of file)
  says_same = says-before file more (omega arith)

  has : need (plate_of file) ≤ length (level_data file)
  has = omega (arith, length-drop (stored_in file).payload file)

  pub data-more : level_data (file ++ more) ≡ level_data file ++ more
  data-more =
      ap (λ (s : Stored). drop s.payload (file ++ more)) says_same.plate ∙ drop-append-le (stored_in file).payload file more (omega arith)

  number_same : program_refusal (file ++ more) ≡ program_refusal file
  number_same =
      let s = stored_in file in
      let p : Picture = plate_of file in
      let d = level_data file in
      let long : short_data p (length (d ++ more)) ≡ false = le-ltb (length (d ++ more)) (need p) (omega (arith, length-append d more, has)) in
      let same : short_data p (length d) ≡ false = le-ltb (length d) (need p) has in
      let own : first_of (own_checks (stored_in (file ++ more)) (length (level_data (file ++ more)))) ≡ first_of (own_checks s (length d)) =
      own_same says_same.plate (ap length data-more) ∙ rw (long, same) in
      header-first (file ++ more) ∙ ap₂ (λ (h n : ℕ). cond (eqb h 0) n h) says_same.number own ∙ sym (header-first file)

  pub later-unread : output (file ++ more) ≡ output file
  later-unread =
      ap (λ (n : ℕ). written n (plate_of (file ++ more)) (level_data (file ++ more))) number_same
      ∙ ap (λ (s : Stored). written (program_refusal file) (picture_of s) (level_data (file ++ more))) says_same.plate
      ∙ ap (written (program_refusal file) (plate_of file)) data-more
      ∙ by (eqb (program_refusal file) 0) refl
    where
      p : Picture
      p = plate_of file

      d : List ℕ
      d = level_data file

      by : (t : Bool) → eqb (program_refusal file) 0 ≡ t → written (program_refusal file) p (d ++ more) ≡ written (program_refusal file) p d
      by true e =
          let zero : program_refusal file ≡ 0 = eqb-true (program_refusal file) 0 e in
          let none = none_said file zero in
          let k = kept (stored_in file) (none-early file none.0) in
          let ok : refusal p (call.Block (p.width * p.height)) d ≡ 0 = call-says p (p.width * p.height) (length d) k.sides k.small
          (omega arith) ∙ none.1 in
          written-tga (program_refusal file) p (d ++ more) zero
          ∙ tga-same p.width p.height _ _ (λ i l. picture-past p d more has (call.Block (p.width * p.height)) ok (i % p.width) (i / p.width))
          ∙ sym (written-tga (program_refusal file) p d zero)
      by false e =
          let other : program_refusal file ≡ 0 → ⊥ = eqb-false (program_refusal file) 0 e in
          written-line (program_refusal file) p (d ++ more) (omega arith) ∙ sym (written-line (program_refusal file) p d (omega arith))

-- and none past the read limit, which is why the program reads no more
pub enough-read : EnoughRead
enough-read file =
    ⊎_elim
    (λ more. let long : read_limit ≤ length file = omega (arith, more) in sym (cut (eqb (early front) 0) refl (length-take-le read_limit file long)) ∙ ap
    output (take-append-drop read_limit file))
    (λ few. ap output (take_all read_limit file few))
    (lt-or-le read_limit (length file))
  where
    front : List ℕ
    front = take read_limit file

    rest : List ℕ
    rest = drop read_limit file

    cut : (t : Bool) → eqb (early front) 0 ≡ t → length front ≡ read_limit → output (front ++ rest) ≡ output front
    cut true e size =
        let k = kept (stored_in front) (none-early front (eqb-true (early front) 0 e)) in
        let skipped : (stored_in front).skipped ≤ skipped_limit = ltb-false skipped_limit (stored_in front).skipped k.skipped in
        let needed : need (plate_of front) ≤ need_limit = ltb-false need_limit (need (plate_of front)) k.needed in
        later-unread front rest (omega (arith, payload-near front))
    cut false e size =
        let other : early front ≡ 0 → ⊥ = eqb-false (early front) 0 e in
        let same : early (front ++ rest) ≡ early front =
        ⊎_elim
        (λ long. let head = head-before front rest (omega arith) in early-skipped (front ++ rest) front head (omega (arith, long, head.skipped)))
        (λ few. early-same (front ++ rest) front (says-before front rest (omega (arith, payload-near front))))
        (lt-or-le skipped_limit (stored_in front).skipped) in
        refused-same front rest same (omega arith)
