-- The modulation that a word stores for a texel is its stored weight. Assumes nothing.
use Rattle.std.proofs.Common.{◌≡◌, ℕ, ◌+◌, ◌*◌, ◌/◌, ◌%◌, ◌^◌, ◌<◌, Bool, true, false, cond, ◌&&◌, ◌||◌, T, eqb, List, get_or, refl, ◌∙◌, arith, eqb→eq}
use mathlib.Core.Bool.{beq}
use Rattle.facts.specs.Bits.{is_set}
use Rattle.facts.specs.Finite.{all_below}
use Rattle.facts.proofs.Finite.{below, below₂}
use Rattle.grid.specs.Grid.{half}
use Rattle.word.specs.Word.{code, standard_weight, punch_through_weight, adjusted, weight4bpp, weight2bpp, stored2bpp, word_of}
use Rattle.word.proofs.Bounds.{weights-4, weights-2}
use Rattle.khronos.specs.Agrees.{Bytes}
use Rattle.khronos.specs.Khronos as khronos
use Rattle.khronos.specs.Khronos.{word64, eighths, halves, high_bit, chequered, stored4bpp}
use Rattle.khronos.proofs.Fields.{Parts, parts, is-modulation, is-mode, bit-0}

-- two functions that agree at each number below n, as the checker computes
agree : (f g : ℕ → ℕ) (n : ℕ) → T (all_below (λ c. eqb (f c) (g c)) n) → (c : ℕ) → c < n → f c ≡ g c
agree f g n t c h = eqb→eq (f c) (g c) (below (λ c. eqb (f c) (g c)) n t c h)

-- what a code means
is-eighths : (c : ℕ) → c < 4 → standard_weight c ≡ eighths c
unfolding eighths
is-eighths = agree standard_weight eighths 4 tt

is-halves : (c : ℕ) → c < 4 → punch_through_weight c ≡ halves c
unfolding halves
is-halves = agree punch_through_weight halves 4 tt

is-high-bit : (c : ℕ) → c < 4 → adjusted (standard_weight c) ≡ high_bit c
is-high-bit = agree (λ c. adjusted (standard_weight c)) high_bit 4 tt

-- what a bit means
is-bit : (v : ℕ) → v < 2 → cond (eqb v 1) 8 0 ≡ 8 * v
is-bit = agree (λ v. cond (eqb v 1) 8 0) (λ v. 8 * v) 2 tt

-- two tests with one answer
alike : (s t : Bool) → T (beq s t) → s ≡ t
alike true true h = refl
alike true false h = absurd h
alike false true h = absurd h
alike false false h = refl

-- the texels that give up a bit, by their number in the block and by their place; s is bit 0 of the modulation
gives : (s : Bool) (px py : ℕ) → px < 8 → py < 4 → (eqb (8 * py + px) 0 || eqb (8 * py + px) 20 && s) ≡ (eqb px 0 && eqb py 0 || eqb px 4 && eqb py 2 && s)
gives s px py hx hy = alike _ _ (by s)
  where
    test : Bool → ℕ → ℕ → Bool
    test s px py = beq (eqb (8 * py + px) 0 || eqb (8 * py + px) 20 && s) (eqb px 0 && eqb py 0 || eqb px 4 && eqb py 2 && s)

    by : (s : Bool) → T (test s px py)
    by true = below₂ (test true) 8 4 tt px py hx hy
    by false = below₂ (test false) 8 4 tt px py hx hy

module _ {w m a b : ℕ} (p : Parts w m a b) (px py : ℕ) where
  is-4 : weight4bpp (is_set a 0) m (4 * py + px) ≡ stored4bpp w px py
  unfolding weight4bpp
  is-4 = rw (is-modulation p, is-mode p, is-halves (code m (4 * py + px)) (omega arith), is-eighths (code m (4 * py + px)) (omega arith))

  is-chequered : px < 8 → py < 4 → stored2bpp m (8 * py + px) ≡ chequered w px py
  unfolding stored2bpp
  is-chequered hx hy =
      let i : (8 * py + px) / 2 ≡ 4 * py + px / 2 = omega arith in
      let at : ℕ = code m (4 * py + px / 2) in
      rw (gives (is_set m 0) px py hx hy, i, is-modulation p, bit-0 p, is-high-bit at (omega arith), is-eighths at (omega arith))

  is-2 : px < 8 → py < 4 → weight2bpp (is_set a 0) m (8 * py + px) ≡ khronos.stored2bpp w px py
  unfolding weight2bpp
  is-2 hx hy =
      let column : (8 * py + px) % 8 ≡ px = omega arith in
      let row : (8 * py + px) / 8 ≡ py = omega arith in
      rw (column, row, is-chequered hx hy, is-mode p, is-modulation p, is-bit (m / 2 ^ (8 * py + px) % 2) (omega arith))

-- of either depth
pub is-stored : (two : Bool) (d : List ℕ) → Bytes d → (px py : ℕ) → px < 2 * half two → py < 4
    → get_or (word_of two d).weight (2 * half two * py + px) 0 ≡ cond two (khronos.stored2bpp (word64 d) px py) (stored4bpp (word64 d) px py)
is-stored true d l px py hx hy = weights-2 d (8 * py + px) (omega arith) ∙ is-2 (parts d l) px py hx hy
is-stored false d l px py hx hy = weights-4 d (4 * py + px) (omega arith) ∙ is-4 (parts d l) px py
