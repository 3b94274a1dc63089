-- No refusal has the number 0, and no two have the same; and which numbers theirs are, for `convert`, which has numbers of its own. Assumes nothing.
use Rattle.std.specs.Prelude.{◌≡◌, Bool, true, cond, ◌&&◌, ℕ, ◌<◌, eqb, ltb, refl}
use Rattle.std.proofs.Common.{sym, ap, ◌∙◌, ltb→lt}
use Rattle.pvr.specs.declared.HeaderRefusal.{HeaderRefusal}
use Rattle.pvr.specs.declared.HeaderRefusal.TheVariants.{ShortHeader, NotPvr, UnknownFlags, UnknownFormat}
use Rattle.pvr.specs.declared.HeaderRefusal.TheVariants.{DepthNotOne, SurfacesNotOne, FacesNotOne, NoLevel}
use Rattle.pvr.specs.Header.{number_of}

pub number-above : (f : HeaderRefusal) → 0 < number_of f
number-above ShortHeader = ltb→lt 0 11 tt
number-above NotPvr = ltb→lt 0 12 tt
number-above UnknownFlags = ltb→lt 0 18 tt
number-above UnknownFormat = ltb→lt 0 13 tt
number-above DepthNotOne = ltb→lt 0 14 tt
number-above SurfacesNotOne = ltb→lt 0 15 tt
number-above FacesNotOne = ltb→lt 0 16 tt
number-above NoLevel = ltb→lt 0 17 tt

-- the refusal of a number
pub from_number : ℕ → HeaderRefusal
from_number n =
    cond (eqb n 11) ShortHeader
    (cond (eqb n 12) NotPvr
    (cond (eqb n 18) UnknownFlags
    (cond (eqb n 13) UnknownFormat
    (cond (eqb n 14) DepthNotOne (cond (eqb n 15) SurfacesNotOne (cond (eqb n 16) FacesNotOne NoLevel))))))

pub back : (f : HeaderRefusal) → from_number (number_of f) ≡ f
unfolding from_number
back ShortHeader = refl
back NotPvr = refl
back UnknownFlags = refl
back UnknownFormat = refl
back DepthNotOne = refl
back SurfacesNotOne = refl
back FacesNotOne = refl
back NoLevel = refl

-- The numbers of a header's refusals are among these.
abbrev pub is_header_number : ℕ → Bool
is_header_number n = ltb 10 n && ltb n 19

pub own-number : (f : HeaderRefusal) → is_header_number (number_of f) ≡ true
own-number ShortHeader = refl
own-number NotPvr = refl
own-number UnknownFlags = refl
own-number UnknownFormat = refl
own-number DepthNotOne = refl
own-number SurfacesNotOne = refl
own-number FacesNotOne = refl
own-number NoLevel = refl

pub same-refusal : (f g : HeaderRefusal) → number_of f ≡ number_of g → f ≡ g
same-refusal f g e = sym (back f) ∙ ap from_number e ∙ back g
