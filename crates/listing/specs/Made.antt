-- What a call on a case comes to. Assumes nothing: these are definitions.
use Rattle.std.specs.Prelude.{◌≡◌, List, ℕ, length, min, Result}
use Rattle.std.specs.Borrow.{Bor, MutBor}
use Rattle.facts.specs.Tab.{tab}
use Rattle.samples.specs.Draw.{drawn_word}
use Rattle.samples.specs.Sums.{checksum}
use Rattle.pvrtc.specs.declared.Picture.{Picture}
use Rattle.pvrtc.specs.declared.Refusal.{Refusal}
use Rattle.pvrtc.specs.Refusals.{decoded_number}

-- The words that are lent: so many, of at most 8,256, drawn from a state on.
abbrev pub drawn_words : (words state : ℕ) → List ℕ
drawn_words words state = tab (drawn_word state) (min words 8256)

-- A call that may leave its words so and answer that, by `post`, was made on these bytes, this picture and these words: its number, and the sum
-- over the words afterwards.
pub record Made (post : Bor (List ℕ) → Picture → MutBor (List ℕ) → Result (Unit {0}) Refusal → MutBor (List ℕ) → Type 0)
    (file : List ℕ) (p : Picture) (words : List ℕ) (number sum : ℕ) : Type 0 where
  pub lent : Bor (List ℕ)
  pub room : MutBor (List ℕ)
  pub said : Result (Unit {0}) Refusal
  pub left : MutBor (List ℕ)
  pub bytes : lent.now ≡ file
  pub drawn : room.now ≡ words
  pub made : post lent p room said left
  pub refusal : number ≡ decoded_number said
  pub summed : sum ≡ checksum 1103515245 8589934583 left.now (length left.now)
