-- Converting with or without room has one outcome. Assumes nothing.
use Rattle.std.proofs.Common.{◌≡◌, ℕ, Bool, true, false, List, sym, refl, ◌∙◌, ◌≤◌, ◌<◌, length, lt-ltb, le-ltb, true≢false}
use Rattle.convert.specs.Output.{roomy, ConvertedInRoom, Converted}
use Rattle.convert.proofs.Answers.{one-converted}

module _ (file image out : List ℕ) where
  -- with too little room
  without : roomy image out ≡ false → ConvertedInRoom file image image out out 0
  without e = record { done = λ d. absurd (true≢false (sym d ∙ e)); too-little = λ _. (refl, refl, refl) }

  pub few_words : length image < 131072 → ConvertedInRoom file image image out out 0
  few_words h = without (rw (lt-ltb (length image) 131072 h) refl)

  pub few_bytes : 131072 ≤ length image → length out < 524306 → ConvertedInRoom file image image out out 0
  few_bytes w h = without (rw (le-ltb (length image) 131072 w) (rw (lt-ltb (length out) 524306 h) refl))

  -- with enough
  pub with-room : {image' out' : List ℕ} {r : ℕ} → 131072 ≤ length image → 524306 ≤ length out → Converted file image image' out out' r
      → ConvertedInRoom file image image' out out' r
  with-room w b c =
      let enough : roomy image out ≡ true = rw (le-ltb (length image) 131072 w) (rw (le-ltb (length out) 524306 b) refl) in
      record { done = λ _. c; too-little = λ e. absurd (true≢false (sym enough ∙ e)) }

-- no two outcomes meet the promise
pub one-in-room : {file image image₁ image₂ out out₁ out₂ : List ℕ} {r s : ℕ} → ConvertedInRoom file image image₁ out out₁ r
    → ConvertedInRoom file image image₂ out out₂ s
    → (r ≡ s) × (out₁ ≡ out₂) × (image₁ ≡ image₂)
one-in-room {file} {image} {image₁} {image₂} {out} {out₁} {out₂} {r} {s} a b = by (roomy image out) refl
  where
    by : (t : Bool) → roomy image out ≡ t → (r ≡ s) × (out₁ ≡ out₂) × (image₁ ≡ image₂)
    by true e = one-converted (a.done e) (b.done e)
    by false e =
        let p = a.too-little e in
        let q = b.too-little e in
        (p.0 ∙ sym q.0, p.2 ∙ sym q.2, p.1 ∙ sym q.1)
