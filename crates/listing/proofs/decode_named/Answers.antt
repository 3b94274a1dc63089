use Rattle.std.proofs.Common.{◌≡◌, ℕ, Bool, List, Result, sym, subst}
use Rattle.pvrtc.specs.declared.Picture.{Picture}
use Rattle.pvrtc.specs.declared.Refusal.{Refusal}
use Rattle.pvrtc.specs.Calls.{BlockDecoded}
use Rattle.pvrtc.specs.Picture.{picture}
use Rattle.listing.proofs.decode_named.Goals as goal

-- A picture is the one of its depth.
at_depth :
    (p : Picture) {two : Bool} (d old new : List ℕ) (r : Result (Unit {0}) Refusal) →
    p.is2bpp ≡ two → BlockDecoded (picture p.width p.height two p.mode p.order) d old new r → BlockDecoded p d old new r
at_depth p d old new r e = subst (λ two. BlockDecoded (picture p.width p.height two p.mode p.order) d old new r) (sym e)

pub returns-then-p : goal.returns-then-p
returns-then-p c = at_depth c.args.p _ _ _ _ c.if-p.true c.decode_pvrtc_2bpp.ensures

pub returns-else-p : goal.returns-else-p
returns-else-p c = at_depth c.args.p _ _ _ _ c.if-p.false c.decode_pvrtc_4bpp.ensures
