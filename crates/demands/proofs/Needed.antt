-- A call depends on the bytes that its picture needs, and on no later ones: two runs that agree in them have the same outcomes. Assumes nothing.
use Rattle.std.proofs.Common.{◌≡◌, ℕ, ◌<◌, ◌≤◌, List, ◌++◌, length, get_or, take, drop, Result, sym, refl, ap, ◌∙◌, subst, arith, take-append-drop}
use Rattle.std.proofs.Common.{length-take-le, get_or-take, ext_get_or}
use Rattle.pvrtc.specs.Calls.{refusal, BlockDecoded}
use Rattle.pvrtc.specs.Picture.{picture_texel}
use Rattle.pvrtc.specs.Refusals.{need}
use Rattle.pvrtc.specs.declared.Call.{Call}
use Rattle.pvrtc.specs.declared.Picture.{Picture}
use Rattle.pvrtc.proofs.Past.{refusal-past, picture-past}
use Rattle.demands.proofs.Past.{nothing-past}
use Rattle.demands.proofs.Seen.{moved-block}
use Rattle.pvrtc.specs.declared.Refusal.{Refusal}

-- a call on a run is the call on its needed bytes
module _ (p : Picture) (d : List ℕ) (h : need p ≤ length d) where
  whole : take (need p) d ++ drop (need p) d ≡ d
  whole = take-append-drop (need p) d

  enough : need p ≤ length (take (need p) d)
  enough = omega (arith, length-take-le (need p) d h)

  refusal-front : (c : Call) → refusal p c d ≡ refusal p c (take (need p) d)
  refusal-front c = sym (ap (refusal p c) whole) ∙ refusal-past p (take (need p) d) (drop (need p) d) enough c

  texel-front : (c : Call) → refusal p c d ≡ 0 → (x y : ℕ) → picture_texel p d x y ≡ picture_texel p (take (need p) d) x y
  texel-front c ok x y =
      sym (ap (λ (l : List ℕ). picture_texel p l x y) whole)
      ∙ picture-past p (take (need p) d) (drop (need p) d) enough c (sym (refusal-front c) ∙ ok) x y

  to_front : {old new : List ℕ} {r : Result (Unit {0}) Refusal} → BlockDecoded p d old new r → BlockDecoded p (take (need p) d) old new r
  to_front {old} {new} {r} b =
      ((nothing-past p (take (need p) d) (drop (need p) d) enough).block old new r).1 (subst (λ (l : List ℕ). BlockDecoded p l old new r) (sym whole) b)

  from_front : {old new : List ℕ} {r : Result (Unit {0}) Refusal} → BlockDecoded p (take (need p) d) old new r → BlockDecoded p d old new r
  from_front {old} {new} {r} b =
      subst (λ (l : List ℕ). BlockDecoded p l old new r) whole (((nothing-past p (take (need p) d) (drop (need p) d) enough).block old new r).0 b)

-- so two runs that agree in these are alike
module _ (p : Picture) (d e : List ℕ) (hd : need p ≤ length d) (he : need p ≤ length e)
    (same : (i : ℕ) → i < need p → get_or d i 0 ≡ get_or e i 0) where
  size : (l : List ℕ) → need p ≤ length l → length (take (need p) l) ≡ need p
  size l h = length-take-le (need p) l h

  fronts : take (need p) d ≡ take (need p) e
  fronts =
      ext_get_or 0 (take (need p) d) (take (need p) e) (size d hd ∙ sym (size e he))
      (λ i l. let h : i < need p = omega (arith, size d hd) in get_or-take (need p) d i 0 h ∙ same i h ∙ sym (get_or-take (need p) e i 0 h))

  -- in what the block call does
  pub block-there : {old new : List ℕ} {r : Result (Unit {0}) Refusal} → BlockDecoded p d old new r → BlockDecoded p e old new r
  block-there b = from_front p e he (moved-block {p = p} refl fronts (to_front p d hd b))

  -- and in each texel, where a call is accepted
  pub texel-there : (c : Call) → refusal p c d ≡ 0 → (x y : ℕ) → picture_texel p d x y ≡ picture_texel p e x y
  texel-there c ok x y =
      let number : refusal p c e ≡ refusal p c d = refusal-front p e he c ∙ sym (ap (refusal p c) fronts) ∙ sym (refusal-front p d hd c) in
      texel-front p d hd c ok x y ∙ ap (λ (l : List ℕ). picture_texel p l x y) fronts ∙ sym (texel-front p e he c (number ∙ ok) x y)
