-- No two answers meet the promise of a call. Assumes nothing.
use Rattle.std.proofs.Common.{◌≡◌, ℕ, ◌≤◌, List, Ok, Result, sym, refl, ◌∙◌, arith, ◌<◌, false, eqb, Err, ap, ne_eqb}
use Rattle.facts.specs.Checks.{Check}
use Rattle.facts.proofs.Said.{same-answer, same-said}
use Rattle.facts.proofs.Said as said
use Rattle.pvrtc.specs.declared.Call.TheVariants as call
use Rattle.pvrtc.specs.declared.Picture.{Picture}
use Rattle.pvrtc.specs.declared.Refusal.{Refusal}
use Rattle.pvrtc.specs.Calls.{TexelRead, Written, refusal}
use Rattle.pvrtc.specs.Numbers.{number-above, same-refusal}
use Rattle.pvrtc.specs.Refusals.{number_of, decoded_number, texel_number, texel_value, Says}
use Rattle.pvrtc.specs.Picture.{picture_texel}

-- no refusal's number is above 6
pub number_small : (f : Refusal) → number_of f ≤ 6
number_small f = grind arith

-- answers with the same number are the same
pub same-decoded : (r s : Result (Unit {0}) Refusal) → decoded_number r ≡ decoded_number s → r ≡ s
same-decoded = same-said number_of number-above same-refusal

-- so that one answer says what a list of checks says: `check`, and `check_sizes`
pub one-said : (l : List Check) (r s : Result (Unit {0}) Refusal) → Says r l → Says s l → r ≡ s
one-said = said.one-said number_of number-above same-refusal

-- with the same number and the same word too
pub same-texel : (r s : Result ℕ Refusal) → texel_number r ≡ texel_number s → texel_value r ≡ texel_value s → r ≡ s
same-texel = same-answer number_of number-above same-refusal texel_value (λ _. refl)

-- the texel call
pub one-texel : (p : Picture) (d : List ℕ) (x y : ℕ) (r s : Result ℕ Refusal) → TexelRead p d x y r → TexelRead p d x y s → r ≡ s
one-texel p d x y r s a b = same-texel r s (a.number ∙ sym b.number) (a.value ∙ sym b.value)

module _ (p : Picture) (d : List ℕ) (x y : ℕ) where
  -- how its promise is met: by the texel, or by a refusal
  pub by_word : {v : ℕ} → refusal p (call.Texel x y) d ≡ 0 → v ≡ picture_texel p d x y → TexelRead p d x y (Ok v)
  by_word {v} e q = record { number = sym e; value = rw e q }

  pub by-refusal : {f : Refusal} → number_of f ≡ refusal p (call.Texel x y) d → TexelRead p d x y (Err f)
  by-refusal {f} e =
      let n : eqb (refusal p (call.Texel x y) d) 0 ≡ false = ne_eqb (refusal p (call.Texel x y) d) 0 (omega (arith, number-above f)) in
      record { number = e; value = rw n }

-- the calls that write: one answer, and one list of words
pub one_written : {n : ℕ} {done old new new' : List ℕ} {r s : Result (Unit {0}) Refusal} → Written n done old new r
    → Written n done old new' s → (r ≡ s) × (new ≡ new')
one_written {n} {done} {old} {new} {new'} {r} {s} a b = (same-decoded r s (a.number ∙ sym b.number), a.words ∙ sym b.words)

-- how their promise is met: by the words, or by a refusal, which writes nothing
pub by-words : {n : ℕ} {done old new : List ℕ} → n ≡ 0 → new ≡ done → Written n done old new (Ok tt)
by-words {n} e q = record { number = sym e; words = rw e q }

pub by-none : {n : ℕ} {done old : List ℕ} {r : Result (Unit {0}) Refusal} {f : Refusal} → decoded_number r ≡ n → r ≡ Err f
    → Written n done old old r
by-none {n} {done} {old} {r} {f} e q =
    let above : 0 < n = rw (sym e ∙ ap decoded_number q) (number-above f) in
    let other : eqb n 0 ≡ false = ne_eqb n 0 (omega arith) in
    record { number = e; words = rw other }
