-- No refusal has the number 0, and no two have the same. Assumes nothing.
use Rattle.std.specs.Prelude.{◌≡◌, cond, ℕ, ◌<◌, eqb, ltb, refl}
use Rattle.std.proofs.Common.{sym, ap, ◌∙◌, arith, lt-ltb, le-ltb, ne_eqb}
use Rattle.pvrtc.specs.Numbers as call
use Rattle.pvrtc.specs.Refusals as call-spec
use Rattle.pvrtc.proofs.Unique.{number_small}
use Rattle.pvr.specs.Header as pvr-spec
use Rattle.pvr.specs.Numbers as pvr
use Rattle.pvr.proofs.Unique.{from-11}
use Rattle.ktx.specs.Header as ktx-spec
use Rattle.ktx.specs.Numbers as ktx
use Rattle.ktx.proofs.Unique.{from-31}
use Rattle.levels.specs.declared.Refusal.{Refusal}
use Rattle.levels.specs.declared.Refusal.TheVariants.{Pvr, Ktx, Picture, TooManyLevels, NoSuchLevel, OtherSize}
use Rattle.levels.specs.Refusals.{number_of}

pub number-above : (f : Refusal) → 0 < number_of f
number-above (Pvr f) = pvr.number-above f
number-above (Ktx f) = ktx.number-above f
number-above (Picture f) = call.number-above f
number-above TooManyLevels = omega arith
number-above NoSuchLevel = omega arith
number-above OtherSize = omega arith

-- 1 to 6 are the block call's, 11 to 18 a PVR header's, and from 31 on all but 36 a KTX header's
from_number : ℕ → Refusal
from_number n =
    cond (ltb n 7) (Picture (call.from_number n))
    (cond (ltb n 19) (Pvr (pvr.from_number n))
    (cond (eqb n 19) NoSuchLevel (cond (eqb n 20) TooManyLevels (cond (eqb n 36) OtherSize (Ktx (ktx.from_number n))))))

back : (f : Refusal) → from_number (number_of f) ≡ f
unfolding from_number
back (Picture f) = rw (lt-ltb (call-spec.number_of f) 7 (omega (arith, number_small f))) (ap Picture (call.back f))
back (Pvr f) =
    let n : ℕ = pvr-spec.number_of f in
    let range = from-11 f in
    rw (le-ltb n 7 (omega (arith, range.0)), lt-ltb n 19 (omega (arith, range.1))) (ap Pvr (pvr.back f))
back (Ktx f) =
    let n : ℕ = ktx-spec.number_of f in
    let above = from-31 f in
    rw (
      le-ltb n 7 (omega (arith, above.0)),
      le-ltb n 19 (omega (arith, above.0)),
      ne_eqb n 19 (omega (arith, above.0)),
      ne_eqb n 20 (omega (arith, above.0)),
      ne_eqb n 36 above.1,
    ) (ap Ktx (ktx.back f))
back TooManyLevels = refl
back NoSuchLevel = refl
back OtherSize = refl

pub same-refusal : (f g : Refusal) → number_of f ≡ number_of g → f ≡ g
same-refusal f g e = sym (back f) ∙ ap from_number e ∙ back g
