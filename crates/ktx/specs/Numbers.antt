-- No refusal has the number 0, and no two have the same; and which numbers a header's are, for `convert`, which has numbers of its own. Assumes nothing.
use Rattle.std.specs.Prelude.{◌≡◌, Bool, true, cond, not, ◌&&◌, ℕ, ◌<◌, eqb, ltb, refl}
use Rattle.std.proofs.Common.{sym, ap, ◌∙◌, ltb→lt}
use Rattle.pvrtc.specs.Numbers as call
use Rattle.pvrtc.specs.declared.Refusal.TheVariants.{ZeroSide, LargeSide, ShortData, ShortImage, NotPowerOfTwo, Outside}
use Rattle.ktx.specs.declared.HeaderRefusal.{HeaderRefusal}
use Rattle.ktx.specs.declared.HeaderRefusal.TheVariants.{ShortHeader, NotKtx, OtherByteOrder, UnknownFormat, NotOnePlate, CutShort}
use Rattle.ktx.specs.declared.Refusal.{Refusal}
use Rattle.ktx.specs.declared.Refusal.TheVariants.{Unread, OtherSize, Picture}
use Rattle.ktx.specs.Header.{number_of}
use Rattle.ktx.specs.Picture.{reason_number}

-- those of a header
pub number-above : (f : HeaderRefusal) → 0 < number_of f
number-above ShortHeader = ltb→lt 0 31 tt
number-above NotKtx = ltb→lt 0 32 tt
number-above OtherByteOrder = ltb→lt 0 33 tt
number-above UnknownFormat = ltb→lt 0 34 tt
number-above NotOnePlate = ltb→lt 0 35 tt
number-above CutShort = ltb→lt 0 37 tt

pub from_number : ℕ → HeaderRefusal
from_number n =
    cond (eqb n 31) ShortHeader
    (cond (eqb n 32) NotKtx (cond (eqb n 33) OtherByteOrder (cond (eqb n 34) UnknownFormat (cond (eqb n 35) NotOnePlate CutShort))))

pub back : (f : HeaderRefusal) → from_number (number_of f) ≡ f
unfolding from_number
back ShortHeader = refl
back NotKtx = refl
back OtherByteOrder = refl
back UnknownFormat = refl
back NotOnePlate = refl
back CutShort = refl

-- The numbers of a header's refusals are among these: 36 is that of another size.
abbrev pub is_header_number : ℕ → Bool
is_header_number n = ltb 30 n && ltb n 38 && not (eqb n 36)

pub own-number : (f : HeaderRefusal) → is_header_number (number_of f) ≡ true
own-number ShortHeader = refl
own-number NotKtx = refl
own-number OtherByteOrder = refl
own-number UnknownFormat = refl
own-number NotOnePlate = refl
own-number CutShort = refl

pub same-refusal : (f g : HeaderRefusal) → number_of f ≡ number_of g → f ≡ g
same-refusal f g e = sym (back f) ∙ ap from_number e ∙ back g

-- and those of a file
pub reason-above : (f : Refusal) → 0 < reason_number f
reason-above (Unread f) = number-above f
reason-above OtherSize = ltb→lt 0 36 tt
reason-above (Picture f) = call.number-above f

reason_of : ℕ → Refusal
reason_of n = cond (ltb n 7) (Picture (call.from_number n)) (cond (eqb n 36) OtherSize (Unread (from_number n)))

reason-back : (f : Refusal) → reason_of (reason_number f) ≡ f
unfolding reason_of
reason-back (Unread ShortHeader) = ap Unread (back ShortHeader)
reason-back (Unread NotKtx) = ap Unread (back NotKtx)
reason-back (Unread OtherByteOrder) = ap Unread (back OtherByteOrder)
reason-back (Unread UnknownFormat) = ap Unread (back UnknownFormat)
reason-back (Unread NotOnePlate) = ap Unread (back NotOnePlate)
reason-back (Unread CutShort) = ap Unread (back CutShort)
reason-back OtherSize = refl
reason-back (Picture ZeroSide) = ap Picture (call.back ZeroSide)
reason-back (Picture LargeSide) = ap Picture (call.back LargeSide)
reason-back (Picture ShortData) = ap Picture (call.back ShortData)
reason-back (Picture ShortImage) = ap Picture (call.back ShortImage)
reason-back (Picture NotPowerOfTwo) = ap Picture (call.back NotPowerOfTwo)
reason-back (Picture Outside) = ap Picture (call.back Outside)

pub same-reason : (f g : Refusal) → reason_number f ≡ reason_number g → f ≡ g
same-reason f g e = sym (reason-back f) ∙ ap reason_of e ∙ reason-back g
