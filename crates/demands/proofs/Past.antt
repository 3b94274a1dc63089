-- Data past the need has no effect on an outcome, and what C calls has the calls' outcomes. Assumes nothing.
use Rattle.std.proofs.Common.{◌≡◌, ℕ, ◌≤◌, Bool, true, false, cond, eqb, ◌↔◌, List, ◌++◌, length, Result, sym, refl, ap, ◌∙◌, arith, eqb-true}
use Rattle.paint.specs.Paint.{painted}
use Rattle.paint.proofs.Painted.{painted_same}
use Rattle.pvrtc.specs.Calls.{refusal, TexelRead, Written}
use Rattle.pvrtc.specs.Picture.{picture_texel}
use Rattle.pvrtc.specs.Refusals.{need}
use Rattle.pvrtc.specs.declared.Call.{Call}
use Rattle.pvrtc.specs.declared.Call.TheVariants as call
use Rattle.pvrtc.specs.declared.Picture.{Picture}
use Rattle.pvrtc.proofs.Past.{refusal-past, picture-past}
use Rattle.demands.specs.Total.{PastUnread, NothingPast, SameInC}
use Rattle.pvrtc.specs.declared.Refusal.{Refusal}

-- the word that the texel call answers: 0 where it is refused
abbrev pub texel_of : Picture → List ℕ → ℕ → ℕ → ℕ
texel_of p d x y = cond (eqb (refusal p (call.Texel x y) d) 0) (picture_texel p d x y) 0

-- a choice by a number that is 0 where both arms need be the same
pub chosen : {A : Type 0} (n : ℕ) (a b c : A) → (n ≡ 0 → a ≡ b) → cond (eqb n 0) a c ≡ cond (eqb n 0) b c
chosen n a b c e = by (eqb n 0) refl
  where
    by : (t : Bool) → eqb n 0 ≡ t → cond t a c ≡ cond t b c
    by true q = e (eqb-true n 0 q)
    by false q = refl

-- what a texel call promises is met by the same answers where its number and its value are equal
pub both_read : {p q : Picture} {d e : List ℕ} {x y : ℕ} {r : Result ℕ Refusal} → refusal p (call.Texel x y) d ≡ refusal q (call.Texel x y) e
    → texel_of p d x y ≡ texel_of q e x y → TexelRead p d x y r ↔ TexelRead q e x y r
both_read n v =
    (λ t. record { number = t.number ∙ n; value = t.value ∙ v }, λ t. record { number = t.number ∙ sym n; value = t.value ∙ sym v })

-- and what a call that writes promises, where its number and its words are
pub both-written : {n n' : ℕ} {done done' old new : List ℕ} {r : Result (Unit {0}) Refusal} → n ≡ n' → cond (eqb n 0) done old ≡ cond (eqb n' 0) done' old
    → Written n done old new r ↔ Written n' done' old new r
both-written e q =
    (λ w. record { number = w.number ∙ e; words = w.words ∙ q }, λ w. record { number = w.number ∙ sym e; words = w.words ∙ sym q })

module _ (p : Picture) (d more : List ℕ) (enough : need p ≤ length d) where
  -- the number is the same, and where a call is accepted each texel
  number : (c : Call) → refusal p c d ≡ refusal p c (d ++ more)
  number c = sym (refusal-past p d more enough c)

  texel : (c : Call) → refusal p c d ≡ 0 → (x y : ℕ) → picture_texel p d x y ≡ picture_texel p (d ++ more) x y
  texel c ok x y = sym (picture-past p d more enough c ok x y)

  value : (x y : ℕ) → texel_of p d x y ≡ texel_of p (d ++ more) x y
  value x y =
      let c = call.Texel x y in
      chosen (refusal p c d) (picture_texel p d x y) (picture_texel p (d ++ more) x y) 0 (λ ok. texel c ok x y)
      ∙ ap (λ (n : ℕ). cond (eqb n 0) (picture_texel p (d ++ more) x y) 0) (number c)

  -- what a call writes, painted by f or by g
  words : (c : Call) (w h : ℕ) (f g : ℕ → ℕ → ℕ) (old : List ℕ) → (refusal p c d ≡ 0 → (x y : ℕ) → f x y ≡ g x y)
      → cond (eqb (refusal p c d) 0) (painted 0 w w h f old) old ≡ cond (eqb (refusal p c (d ++ more)) 0) (painted 0 w w h g old) old
  words c w h f g old same =
      chosen (refusal p c d) (painted 0 w w h f old) (painted 0 w w h g old) old
      (λ ok. painted_same 0 w w h f g old (omega arith) (λ x y _ _. same ok x y))
      ∙ ap (λ (n : ℕ). cond (eqb n 0) (painted 0 w w h g old) old) (number c)

  past : PastUnread p d more
  past =
      record {
        texel = λ x y r. both_read (number (call.Texel x y)) (value x y);
        row = λ y old new r.
            let c = call.Row y (length old) in
            both-written (number c) (words c p.width 1 (λ x _. picture_texel p d x y) (λ x _. picture_texel p (d ++ more) x y) old (λ ok x _. texel c ok x y));
        block = λ old new r.
            let c = call.Block (length old) in
            both-written (number c) (words c p.width p.height (picture_texel p d) (picture_texel p (d ++ more)) old (texel c));
      }

pub nothing-past : NothingPast
nothing-past = past

pub same-in-c : (p : Picture) (d : List ℕ) → SameInC p d
same-in-c p d =
    record {
      texel = λ x y r t. omega (arith, t.number, t.value);
      row = λ y old new r. (λ w. record { number = w.number; words = w.words }, λ w. record { number = w.number; words = w.words });
      picture = λ old new r. (λ w. record { number = w.number; words = w.words }, λ w. record { number = w.number; words = w.words });
    }
