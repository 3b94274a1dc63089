-- No refusal has the number 0, and no two have the same. Assumes nothing.
use Rattle.std.specs.Prelude.{◌≡◌, ℕ, zero, suc, ◌<◌, refl}
use Rattle.std.proofs.Common.{sym, ap, ◌∙◌, ltb→lt}
use Rattle.pvrtc.specs.declared.Refusal.{Refusal}
use Rattle.pvrtc.specs.declared.Refusal.TheVariants.{ZeroSide, LargeSide, ShortData, ShortImage, NotPowerOfTwo, Outside}
use Rattle.pvrtc.specs.Refusals.{number_of}

pub number-above : (f : Refusal) → 0 < number_of f
number-above ZeroSide = ltb→lt 0 1 tt
number-above LargeSide = ltb→lt 0 2 tt
number-above ShortData = ltb→lt 0 3 tt
number-above ShortImage = ltb→lt 0 4 tt
number-above NotPowerOfTwo = ltb→lt 0 5 tt
number-above Outside = ltb→lt 0 6 tt

-- the refusal of a number
pub from_number : ℕ → Refusal
from_number zero = Outside
from_number (suc zero) = ZeroSide
from_number (suc (suc zero)) = LargeSide
from_number (suc (suc (suc zero))) = ShortData
from_number (suc (suc (suc (suc zero)))) = ShortImage
from_number (suc (suc (suc (suc (suc zero))))) = NotPowerOfTwo
from_number (suc (suc (suc (suc (suc (suc n)))))) = Outside

pub back : (f : Refusal) → from_number (number_of f) ≡ f
unfolding from_number
back ZeroSide = refl
back LargeSide = refl
back ShortData = refl
back ShortImage = refl
back NotPowerOfTwo = refl
back Outside = refl

pub same-refusal : (f g : Refusal) → number_of f ≡ number_of g → f ≡ g
same-refusal f g e = sym (back f) ∙ ap from_number e ∙ back g
