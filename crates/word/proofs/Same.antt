-- A word depends on its eight bytes alone. Assumes nothing.
use Rattle.std.proofs.Common.{◌≡◌, Bool, List, ℕ, ◌<◌, arith, get_or}
use Rattle.word.specs.Word.{word_of}

-- lists that agree in the first eight bytes start with the same word
pub word_same : (two : Bool) (d d' : List ℕ) → ((k : ℕ) → k < 8 → get_or d k 0 ≡ get_or d' k 0) → word_of two d ≡ word_of two d'
unfolding word_of
word_same two d d' h =
    simp
    (h 0 (omega arith), h 1 (omega arith), h 2 (omega arith), h 3 (omega arith), h 4 (omega arith), h 5 (omega arith), h 6 (omega arith), h 7 (omega arith))
