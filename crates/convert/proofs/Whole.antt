-- From a reader's answer to what is written for the whole file. Assumes nothing.
use Rattle.std.proofs.Common.{◌≡◌, ℕ, ◌/◌, ◌%◌, ◌-◌, ◌<◌, ◌≤◌, false, cond, eqb, min, List, length, get_or, take, drop}
use Rattle.std.proofs.Common.{Ok, Err, Result, sym, refl, ap, ◌∙◌, arith, ne_eqb}
use Rattle.facts.specs.Checks.{first_of}
use Rattle.files.specs.Reading.{Says, Shown}
use Rattle.files.specs.declared.Stored.{Stored}
use Rattle.files.proofs.Answers as reader
use Rattle.files.proofs.Fields.{data_is}
use Rattle.paint.specs.Sheet.{on_sheet}
use Rattle.pvrtc.specs.declared.Call.TheVariants as call
use Rattle.pvrtc.specs.declared.Picture.{Picture}
use Rattle.pvrtc.specs.declared.Refusal.{Refusal as CallRefusal}
use Rattle.pvrtc.specs.Calls.{refusal, BlockDecoded}
use Rattle.pvrtc.specs.Picture.{sheet_of, picture_texel}
use Rattle.pvrtc.specs.Refusals.{decoded_number}
use Rattle.pvrtc.proofs.Agree.{word-is}
use Rattle.convert.specs.declared.Refusal.{Refusal}
use Rattle.convert.specs.declared.Refusal.TheVariants as reason
use Rattle.convert.specs.Inner.{number_of, FileDecoded, Laid, TgaFits}
use Rattle.convert.specs.Numbers.{number-above}
use Rattle.convert.specs.Output.{says_of, stored_in, picture_of, plate_of, level_data, limit_checks, payload_checks, own_checks, program_refusal}
use Rattle.convert.specs.Output.{refused_line, tga_of, written, Answered, Converted, Room, header_refusal}
use Rattle.convert.proofs.Answers.{written-line, written-tga, tga-same}
use Rattle.convert.proofs.Either.{header-small}
use Rattle.convert.proofs.Limits.{kept, own-number, own_same, few_words, call-says, past-limits, tga-fits}
use Rattle.convert.proofs.Said.{header-first, none-early, none_said}

-- the parts of an answer may be replaced by equal ones
pub answered-same : {n m : ℕ} {p q : Picture} {d e image image' out out' : List ℕ} {r : ℕ} → n ≡ m → p ≡ q → d ≡ e
    → Answered n p d image image' out out' r → Answered m q e image image' out out' r
answered-same en ep ed a = rw (← en, ← ep, ← ed) a

-- what the reader of a file's kind answers is what the file says
module _ (file : List ℕ) {E : Type 0} {number : E → ℕ} {s : Says} (kind : says_of file ≡ s) where
  pub kind-refused : {f : E} {g : Refusal} → number_of g ≡ number f → Shown number s (Err f) → Shown number_of (says_of file) (Err g)
  kind-refused n a = reader.by_number (n ∙ a.refusal ∙ sym (ap (λ (t : Says). first_of t.refusals) kind))

  pub kind-plate : {p : Stored} → Shown number s (Ok p) → Shown number_of (says_of file) (Ok p)
  kind-plate a = reader.by-plate (a.refusal ∙ sym (ap (λ (t : Says). first_of t.refusals) kind)) (a.plate ∙ sym (ap (λ (t : Says). t.plate) kind))

module _ (file image : List ℕ) where
  -- a number is said before the data is asked: the words are as they were
  refused : {f : Refusal} → number_of f ≡ program_refusal file → FileDecoded file image image (Err f)
  refused {f} e =
      let other : eqb (program_refusal file) 0 ≡ false = ne_eqb (program_refusal file) 0 (omega (arith, number-above f)) in
      record { number = e; plate = tt; words = rw other refl }

  -- the header is refused
  pub by-header : {f : Refusal} → Shown number_of (says_of file) (Err f) → FileDecoded file image image (Err f)
  by-header {f} a =
      let other : eqb (number_of f) 0 ≡ false = ne_eqb (number_of f) 0 (omega (arith, number-above f)) in
      refused (sym (header-first file ∙ rw (sym a.refusal, other)))

  -- the header is accepted: what is said of its plate
  module _ {s : Stored} (a : Shown number_of (says_of file) (Ok s)) where
    own : program_refusal file ≡ first_of (own_checks s (length (level_data file)))
    own = header-first file ∙ rw (sym a.refusal) (own_same (sym a.plate) refl)

    -- a limit is exceeded
    pub by-limit : {f : Refusal} → number_of f ≡ first_of (limit_checks s) → FileDecoded file image image (Err f)
    by-limit {f} e =
        let other : eqb (number_of f) 0 ≡ false = ne_eqb (number_of f) 0 (omega (arith, number-above f)) in
        refused (sym (own ∙ own-number s (length (level_data file)) ∙ rw (sym e, other)))

    -- past the limits it is the block call that speaks
    module _ (none : 0 ≡ first_of (limit_checks s)) (room : 131072 ≤ length image) {image' d : List ℕ} (same : d ≡ level_data file)
        {decoded : Result (Unit {0}) CallRefusal} (b : BlockDecoded (picture_of s) d image image' decoded) where
      as_called : program_refusal file ≡ refusal (picture_of s) (call.Block (length image)) d
      as_called =
          own
          ∙ past-limits s (length image) (length (level_data file)) (sym none) room
          ∙ ap (λ (l : List ℕ). refusal (picture_of s) (call.Block (length image)) l) (sym same)

      said : decoded_number decoded ≡ program_refusal file
      said = b.number ∙ sym as_called

      words : image'
          ≡ cond (eqb (program_refusal file) 0) (on_sheet (sheet_of (plate_of file)) (picture_texel (plate_of file) (level_data file)) image) image
      words = rw (as_called, ← same, ← a.plate) b.words

      pub by_call : {f : CallRefusal} → decoded ≡ Err f → FileDecoded file image image' (Err (reason.Picture f))
      by_call e = record { number = sym (ap decoded_number e) ∙ said; plate = tt; words = words }

      pub by-picture : decoded ≡ Ok tt → FileDecoded file image image' (Ok s)
      by-picture e = record { number = sym (ap decoded_number e) ∙ said; plate = a.plate; words = words }

-- a header's number, as a reader says it, is below 100
pub number_small : (file : List ℕ) {E : Type 0} {number : E → ℕ} {f : E} → Shown number (says_of file) (Err f) → number f < 100
number_small file {number = number} {f} a =
    let said : number f ≡ header_refusal file = a.refusal in
    omega (arith, header-small file, said)

-- the header is accepted: what is said of its plate is said of the file
module _ (file : List ℕ) {E : Type 0} {number : E → ℕ} {s : Stored} (a : Shown number (says_of file) (Ok s)) where
  pub by-plate : {image image' out out' : List ℕ} {start r : ℕ} → start ≡ min s.payload (length file)
      → Answered (first_of (own_checks s (length (take (length file - start) (drop start file))))) (picture_of s)
      (take (length file - start) (drop start file)) image image' out out' r
      → Converted file image image' out out' r
  by-plate {start = start} q b = answered-same own-is (ap picture_of same-plate) same-data b
    where
      accepted : header_refusal file ≡ 0
      accepted = (reader.of-plate a).0

      same-plate : s ≡ stored_in file
      same-plate = (reader.of-plate a).1

      same-data : take (length file - start) (drop start file) ≡ level_data file
      same-data = data_is file start s.payload q ∙ ap (λ (t : Stored). drop t.payload file) same-plate

      own-is : first_of (own_checks s (length (take (length file - start) (drop start file)))) ≡ program_refusal file
      own-is = own_same same-plate (ap length same-data) ∙ sym (header-first file ∙ rw accepted)

-- what is written: the line of the first refusal
pub by-line : {file image image' out out' : List ℕ} {f : Refusal} {n r : ℕ} → FileDecoded file image image' (Err f) → n ≡ number_of f
    → Laid (refused_line n) out out' r → Converted file image image' out out' r
by-line {file} {f = f} a e l =
    let line : refused_line _ ≡ written (program_refusal file) (plate_of file) (level_data file) =
    ap refused_line (e ∙ a.number) ∙ sym (written-line _ (plate_of file) (level_data file) (omega (arith, a.number, number-above f))) in
    record { size = l.size ∙ ap length line; bytes = rw (← line) l.is; words = a.words }

-- or the TGA, for which there is room
module _ (file out : List ℕ) {image image' : List ℕ} {s : Stored} (a : FileDecoded file image image' (Ok s)) (room : Room (length image) (length out)) where
  none : (first_of (limit_checks (stored_in file)) ≡ 0) × (first_of (payload_checks (plate_of file) (length (level_data file))) ≡ 0)
  none = let n = none_said file (sym a.number) in (none-early file n.0, n.1)

  pub picture-fits : length image' ≡ length image → TgaFits s.width s.height (length image') (length out)
  picture-fits same = tga-fits s (ap (λ (t : Stored). first_of (limit_checks t)) a.plate ∙ none.0) room same

  -- what the words are, as the block call says it
  decoded : BlockDecoded (plate_of file) (level_data file) image image' (Ok tt)
  decoded =
      let p : Picture = plate_of file in
      let k = kept (stored_in file) none.0 in
      let zero : refusal p (call.Block (length image)) (level_data file) ≡ 0 =
      call-says p (length image) (length (level_data file)) k.sides k.small (omega (arith, few_words p k.needed, room.words)) ∙ none.1 in
      record { number = sym zero; words = rw zero (rw (sym a.number) at a.words) }

  pub by-tga : {out' : List ℕ} {r : ℕ} → Laid (tga_of s.width s.height (λ k. get_or image' k 0)) out out' r → Converted file image image' out out' r
  by-tga l =
      let p : Picture = plate_of file in
      let all : tga_of s.width s.height (λ k. get_or image' k 0) ≡ written (program_refusal file) p (level_data file) =
      ap (λ (t : Stored). tga_of t.width t.height (λ k. get_or image' k 0)) a.plate
      ∙ tga-same p.width p.height (λ k. get_or image' k 0) (λ k. picture_texel p (level_data file) (k % p.width) (k / p.width))
      (word-is p (level_data file) decoded)
      ∙ sym (written-tga (program_refusal file) p (level_data file) (sym a.number)) in
      record { size = l.size ∙ ap length all; bytes = rw (← all) l.is; words = a.words }
