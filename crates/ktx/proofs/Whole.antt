-- From a header's answer to the picture of the whole file. Assumes nothing.
use Rattle.std.proofs.Common.{◌≡◌, ℕ, ◌-◌, ◌≤◌, Bool, true, false, not, eqb, List, length, take, drop, Ok, Err, Result, sym, refl, ap, ◌∙◌, true≢false, arith}
use Rattle.std.proofs.Common.{length-drop, take_all, ltb-false, ne_eqb, eqb-true}
use Rattle.facts.specs.Checks.{Check, first_of}
use Rattle.facts.proofs.Checks.{none_said, neither-said, first-append, said-first}
use Rattle.pixel.specs.declared.ChannelOrder.{ChannelOrder}
use Rattle.pvrtc.proofs.Orders.{room_in, refusal-in}
use Rattle.pvrtc.specs.Calls.{refusal, BlockDecoded}
use Rattle.pvrtc.specs.Picture.{picture, in_order}
use Rattle.pvrtc.specs.Refusals.{need}
use Rattle.pvrtc.specs.declared.Call.TheVariants.{Block}
use Rattle.pvrtc.specs.declared.GridMode.TheVariants.{Stored}
use Rattle.pvrtc.specs.declared.Picture.{Picture}
use Rattle.pvrtc.specs.declared.Refusal.{Refusal as CallRefusal}
use Rattle.ktx.specs.declared.HeaderRefusal.{HeaderRefusal}
use Rattle.ktx.specs.declared.Plate.{Plate}
use Rattle.ktx.specs.declared.Refusal.{Refusal}
use Rattle.ktx.specs.declared.Refusal.TheVariants.{Unread}
use Rattle.ktx.specs.Header.{size_word_of, payload_offset, header_checks, header_refusal, number_of, HeaderRead}
use Rattle.ktx.specs.Inner.{called_as, SizedDecoded}
use Rattle.ktx.specs.Picture.{plate_of, level_data, sized_checks, picture_refusal, KtxDecoded}
use Rattle.ktx.specs.Numbers.{number-above}
use Rattle.ktx.proofs.Answers.{PlateRead, of-plate}
use Rattle.ktx.proofs.Sized.{same_number, call-speaks}

-- where the header is accepted, the data lies within the file
pub payload-within : (file : List ℕ) → header_refusal file ≡ 0 → payload_offset file ≤ length file
payload-within file e = ltb-false _ _ (none_said (header_checks file) tt e 37)

-- and it is the picture that speaks
pub picture-speaks : (file : List ℕ) (room : ℕ) → header_refusal file ≡ 0
    → picture_refusal file room ≡ first_of (sized_checks (plate_of file) (size_word_of file) (length (level_data file)) room)
picture-speaks file room e = first-append (header_checks file) _ tt ∙ rw e refl

-- the parts of an answer may be replaced by equal ones
sized_same : {p q : Picture} {s t : ℕ} {d e old new : List ℕ} {r : Result (Unit {0}) Refusal} → p ≡ q → s ≡ t → d ≡ e → SizedDecoded p s d old new r
    → SizedDecoded q t e old new r
sized_same ep es ed a = rw (← ep, ← es, ← ed) a

module _ (file old : List ℕ) where
  -- the header is refused: its number, and the words as they were
  pub by-header : {order : ChannelOrder} {f : HeaderRefusal} {r : Result (Unit {0}) Refusal} → r ≡ Err (Unread f) → HeaderRead file (Err f)
      → KtxDecoded order file old old r
  by-header {f = f} q read =
      let number : number_of f ≡ picture_refusal file (length old) = said-first (header_checks file) _ tt read.number (number-above f) in
      let other : eqb (picture_refusal file (length old)) 0 ≡ false = ne_eqb (picture_refusal file (length old)) 0 (λ z. omega (arith, number-above f)) in
      rw q (record { number = number; words = rw other })

  module _ {p : Plate} (read : HeaderRead file (Ok p)) where
    plate : PlateRead file p
    plate = of-plate read

    pub within : p.payload ≤ length file
    within = omega (arith, payload-within file plate.accepted, plate.payload)

    -- it is accepted: what is said of its picture
    pub by-picture : {order : ChannelOrder} {new : List ℕ} {r : Result (Unit {0}) Refusal}
        → SizedDecoded (picture p.width p.height p.is2bpp Stored order) p.size (take (length file - p.payload) (drop p.payload file)) old new r
        → KtxDecoded order file old new r
    by-picture {order} {new} {r} a = record { number = b.number ∙ sym speaks; words = rw speaks b.words }
      where
        same-plate : picture p.width p.height p.is2bpp Stored order ≡ in_order order (plate_of file)
        same-plate = rw (plate.width, plate.height, plate.depth)

        same-data : take (length file - p.payload) (drop p.payload file) ≡ level_data file
        same-data =
            take_all (length file - p.payload) (drop p.payload file) (omega (arith, length-drop p.payload file)) ∙ ap (λ (n : ℕ). drop n file) plate.payload

        b : SizedDecoded (in_order order (plate_of file)) (size_word_of file) (level_data file) old new r
        b = sized_same same-plate plate.said same-data a

        speaks : picture_refusal file (length old)
            ≡ first_of (sized_checks (in_order order (plate_of file)) (size_word_of file) (length (level_data file)) (length old))
        speaks = picture-speaks file (length old) plate.accepted ∙ rw (room_in order (plate_of file) (Block (length old)))

-- where the size word is the need, a file whose header is accepted is decoded as the block call decodes its data
module _ (file : List ℕ) (accepted : header_refusal file ≡ 0) (fits : size_word_of file ≡ need (plate_of file)) where
  pub call-decides : (room : ℕ) → picture_refusal file room ≡ refusal (plate_of file) (Block room) (level_data file)
  call-decides room = picture-speaks file room accepted ∙ call-speaks (plate_of file) (size_word_of file) (length (level_data file)) room fits

  -- in either order
  decides-in : (order : ChannelOrder) (room : ℕ) → picture_refusal file room ≡ refusal (in_order order (plate_of file)) (Block room) (level_data file)
  decides-in order room = call-decides room ∙ sym (refusal-in order (plate_of file) (Block room) (level_data file))

  pub as-block : {order : ChannelOrder} {old new : List ℕ} (r : Result (Unit {0}) CallRefusal) → KtxDecoded order file old new (called_as r)
      → BlockDecoded (in_order order (plate_of file)) (level_data file) old new r
  as-block {order} {old} r a =
      let e = decides-in order (length old) in
      record { number = sym (same_number r) ∙ a.number ∙ e; words = rw (← e) a.words }

  pub of-block : {order : ChannelOrder} {old new : List ℕ} (r : Result (Unit {0}) CallRefusal)
      → BlockDecoded (in_order order (plate_of file)) (level_data file) old new r
      → KtxDecoded order file old new (called_as r)
  of-block {order} {old} r b =
      let e = decides-in order (length old) in
      record { number = same_number r ∙ b.number ∙ sym e; words = rw e b.words }

-- and a file that is decoded has both
module _ (file : List ℕ) (room : ℕ) (none : picture_refusal file room ≡ 0) where
  abbrev own : List Check
  own = sized_checks (plate_of file) (size_word_of file) (length (level_data file)) room

  pub header-accepted : header_refusal file ≡ 0
  header-accepted = (neither-said (header_checks file) own tt none).0

  pub size_fits : size_word_of file ≡ need (plate_of file)
  size_fits = is-equal (none_said own tt (sym (picture-speaks file room header-accepted) ∙ none) 36)
    where
      is-equal : not (eqb (size_word_of file) (need (plate_of file))) ≡ false → size_word_of file ≡ need (plate_of file)
      is-equal e = by (eqb (size_word_of file) (need (plate_of file))) refl e
        where
          by : (t : Bool) → eqb (size_word_of file) (need (plate_of file)) ≡ t → not t ≡ false → size_word_of file ≡ need (plate_of file)
          by true q _ = eqb-true _ _ q
          by false q z = absurd (true≢false z)
