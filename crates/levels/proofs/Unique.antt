-- No two answers meet the promise of describing a level, nor that of decoding it. Assumes nothing.
use Rattle.std.proofs.Common.{◌≡◌, ℕ, List, Result, sym, refl, ◌∙◌}
use Rattle.facts.specs.Checks.{Check}
use Rattle.facts.proofs.Said.{same-answer, same-said}
use Rattle.facts.proofs.Said as said
use Rattle.pixel.specs.declared.ChannelOrder.{ChannelOrder}
use Rattle.levels.specs.declared.Level.{Level}
use Rattle.levels.specs.declared.Levels.{Levels}
use Rattle.levels.specs.declared.Refusal.{Refusal}
use Rattle.levels.specs.Calls.{described_level, LevelRead, LevelDecoded}
use Rattle.levels.specs.Inner.{found_levels, LevelsFound}
use Rattle.levels.specs.Numbers.{number-above, same-refusal}
use Rattle.levels.specs.Refusals.{number_of, decoded_number, Says}

-- answers with the same number are the same
pub same-decoded : (r s : Result (Unit {0}) Refusal) → decoded_number r ≡ decoded_number s → r ≡ s
same-decoded = same-said number_of number-above same-refusal

-- so that one answer says what a list of checks says
pub one-said : (l : List Check) (r s : Result (Unit {0}) Refusal) → Says r l → Says s l → r ≡ s
one-said = said.one-said number_of number-above same-refusal

-- what is found of a file's levels
pub one_found : (file : List ℕ) (r s : Result Levels Refusal) → LevelsFound file r → LevelsFound file s → r ≡ s
one_found file r s a b =
    same-answer number_of number-above same-refusal found_levels (λ _. refl) r s (a.number ∙ sym b.number) (a.levels ∙ sym b.levels)

-- describing a level
pub one-described : (file : List ℕ) (k : ℕ) (r s : Result Level Refusal) → LevelRead file k r → LevelRead file k s → r ≡ s
one-described file k r s a b =
    same-answer number_of number-above same-refusal described_level (λ _. refl) r s (a.number ∙ sym b.number) (a.given ∙ sym b.given)

-- decoding it
pub one-decoded : {order : ChannelOrder} {file : List ℕ} {k : ℕ} {old new new' : List ℕ} {r s : Result (Unit {0}) Refusal}
    → LevelDecoded order file k old new r
    → LevelDecoded order file k old new' s
    → (r ≡ s) × (new ≡ new')
one-decoded {r = r} {s = s} a b = (same-decoded r s (a.number ∙ sym b.number), a.words ∙ sym b.words)
