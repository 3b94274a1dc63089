-- No refusal has the number 0, and no two have the same. A reader's refusals are not listed: which numbers are its own, it says itself, and that these
-- are none of the program's or of the other reader's is computed. Assumes nothing.
use Rattle.std.specs.Prelude.{◌≡◌, Bool, true, false, cond, ℕ, ◌<◌, eqb, refl}
use Rattle.std.proofs.Common.{sym, ap, ◌∙◌, ltb→lt, ne_eqb, true≢false, arith}
use Rattle.pvr.specs.Header as pvr-spec
use Rattle.pvr.specs.Numbers as pvr
use Rattle.ktx.specs.Header as ktx-spec
use Rattle.ktx.specs.Numbers as ktx
use Rattle.pvrtc.specs.Numbers as call
use Rattle.pvrtc.specs.declared.Refusal.TheVariants as call-reason
use Rattle.convert.specs.declared.Refusal.{Refusal}
use Rattle.convert.specs.declared.Refusal.TheVariants.{Pvr, Ktx, LongSkipped, LongSide, LargeNeed, OtherSize, Picture}
use Rattle.convert.specs.Inner.{number_of}

pub number-above : (f : Refusal) → 0 < number_of f
number-above (Pvr f) = pvr.number-above f
number-above (Ktx f) = ktx.number-above f
number-above LongSkipped = ltb→lt 0 21 tt
number-above LongSide = ltb→lt 0 22 tt
number-above LargeNeed = ltb→lt 0 23 tt
number-above OtherSize = ltb→lt 0 36 tt
number-above (Picture f) = call.number-above f

-- the refusal of a number: the program's own, a reader's, or else the block call's
from_number : ℕ → Refusal
from_number n =
    cond (eqb n 21) LongSkipped
    (cond (eqb n 22) LongSide
    (cond (eqb n 23) LargeNeed
    (cond (eqb n 36) OtherSize
    (cond (pvr.is_header_number n) (Pvr (pvr.from_number n)) (cond (ktx.is_header_number n) (Ktx (ktx.from_number n)) (Picture (call.from_number n)))))))

-- a number of some kind is none that is not of this kind
not-at : (kind : ℕ → Bool) (n m : ℕ) → kind n ≡ true → kind m ≡ false → eqb n m ≡ false
not-at kind n m e other = ne_eqb n m (λ same. true≢false (sym e ∙ ap kind same ∙ other))

-- no number is of both readers
one-reader : (n : ℕ) → ktx.is_header_number n ≡ true → pvr.is_header_number n ≡ false
one-reader n e = grind arith

back : (f : Refusal) → from_number (number_of f) ≡ f
unfolding from_number
back (Pvr f) =
    let n : ℕ = pvr-spec.number_of f in
    let kind = pvr.is_header_number in
    let e = pvr.own-number f in
    rw (e, not-at kind n 21 e refl, not-at kind n 22 e refl, not-at kind n 23 e refl, not-at kind n 36 e refl) (ap Pvr (pvr.back f))
back (Ktx f) =
    let n : ℕ = ktx-spec.number_of f in
    let kind = ktx.is_header_number in
    let e = ktx.own-number f in
    rw (e, one-reader n e, not-at kind n 21 e refl, not-at kind n 22 e refl, not-at kind n 23 e refl, not-at kind n 36 e refl) (ap Ktx (ktx.back f))
back LongSkipped = refl
back LongSide = refl
back LargeNeed = refl
back OtherSize = refl
back (Picture call-reason.ZeroSide) = ap Picture (call.back call-reason.ZeroSide)
back (Picture call-reason.LargeSide) = ap Picture (call.back call-reason.LargeSide)
back (Picture call-reason.ShortData) = ap Picture (call.back call-reason.ShortData)
back (Picture call-reason.ShortImage) = ap Picture (call.back call-reason.ShortImage)
back (Picture call-reason.NotPowerOfTwo) = ap Picture (call.back call-reason.NotPowerOfTwo)
back (Picture call-reason.Outside) = ap Picture (call.back call-reason.Outside)

pub same-refusal : (f g : Refusal) → number_of f ≡ number_of g → f ≡ g
same-refusal f g e = sym (back f) ∙ ap from_number e ∙ back g
