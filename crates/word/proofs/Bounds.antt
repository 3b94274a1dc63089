-- What a word's parts are, one by one, and what they are bounded by: colours by 31, alphas by 15, weights by 8.
-- Assumes nothing.
use Rattle.std.proofs.Common.{◌≡◌, refl, Bool, true, false, cond, List, [], ◌∷◌, ℕ, ◌+◌, ◌/◌, ◌%◌, ◌^◌, ◌≤◌, ◌<◌, arith, leb, leb→le}
use Rattle.std.proofs.Common.{get_or, drop, replicate, length, length-append, ap, ◌∙◌}
use lib.Bits.{and_le_r}
use Rattle.facts.specs.Bits.{is_set}
use Rattle.facts.proofs.Bits.{flags-bit}
use Rattle.facts.proofs.Finite.{at}
use Rattle.facts.proofs.Numbers.{cond-le}
use Rattle.facts.proofs.Tab.{get_or-tab, tab-front, length-tab}
use Rattle.facts.specs.Tab.{tab}
use Rattle.word.specs.Word.{modulation, color_a, color_b, mode, opaque, blue_a, blue_b, color_of, Small, code, standard_weight, punch_through_weight}
use Rattle.word.specs.Word.{weight4bpp, punch4bpp, holds_code, gives_bit, stored2bpp, weight2bpp, word_of}
use Rattle.word.specs.declared.Fill.TheVariants.{Nothing}

small : (c blue : ℕ) → blue ≤ 31 → Small (color_of c blue)
small c blue h =
    record {
      r = cond-le (opaque c) (omega arith) (omega arith);
      g = cond-le (opaque c) (omega arith) (omega arith);
      b = h;
      a = cond-le (opaque c) (omega arith) (omega arith);
    }

-- the two colours of a word, at either depth
pub color-a : (two : Bool) (d : List ℕ) → (word_of two d).a ≡ color_of (color_a d) (blue_a (color_a d))
unfolding word_of
color-a true d = refl
color-a false d = refl

pub color-b : (two : Bool) (d : List ℕ) → (word_of two d).b ≡ color_of (color_b d) (blue_b (color_b d))
unfolding word_of
color-b true d = refl
color-b false d = refl

pub small-a : (two : Bool) (d : List ℕ) → Small (word_of two d).a
small-a two d =
    rw (color-a two d) (small (color_a d) (blue_a (color_a d)) (cond-le (opaque (color_a d)) (omega arith) (omega arith)))

pub small_b : (two : Bool) (d : List ℕ) → Small (word_of two d).b
small_b two d =
    rw (color-b two d) (small (color_b d) (blue_b (color_b d)) (cond-le (opaque (color_b d)) (omega arith) (omega arith)))

-- what a code means is at most 8, in either table
pub standard-le : (m k : ℕ) → standard_weight (code m k) ≤ 8
standard-le m k =
    leb→le (standard_weight (code m k)) 8 (at (λ _ w. leb w 8) (0 ∷ 3 ∷ 5 ∷ 8 ∷ []) 0 tt (code m k) (omega arith))

punch-through-le : (m k : ℕ) → punch_through_weight (code m k) ≤ 8
punch-through-le m k =
    leb→le (punch_through_weight (code m k)) 8 (at (λ _ w. leb w 8) (0 ∷ 4 ∷ 4 ∷ 8 ∷ []) 0 tt (code m k) (omega arith))

pub weight4bpp-le : (one : Bool) (m i : ℕ) → weight4bpp one m i ≤ 8
unfolding weight4bpp
weight4bpp-le one m i = cond-le one (punch-through-le m i) (standard-le m i)

pub stored2bpp-le : (m i : ℕ) → stored2bpp m i ≤ 8
unfolding stored2bpp
stored2bpp-le m i =
    cond-le (gives_bit m i) (and_le_r (standard_weight (code m (i / 2)) + 3) 8) (standard-le m (i / 2))

pub weight2bpp-le : (one : Bool) (m i : ℕ) → weight2bpp one m i ≤ 8
unfolding weight2bpp
weight2bpp-le one m i =
    cond-le one (cond-le (holds_code i) (stored2bpp-le m i) (omega arith)) (cond-le (is_set m i) (omega arith) (omega arith))

-- the weights of a word, one by one
pub weights-4 : (d : List ℕ) (i : ℕ) → i < 16 → get_or (word_of false d).weight i 0 ≡ weight4bpp (mode d) (modulation d) i
unfolding word_of
weights-4 d i h = tab-front (weight4bpp (mode d) (modulation d)) 16 i (drop 16 (replicate 32 0)) 0 h

pub weights-2 : (d : List ℕ) (i : ℕ) → i < 32 → get_or (word_of true d).weight i 0 ≡ weight2bpp (mode d) (modulation d) i
unfolding word_of
weights-2 d i h = get_or-tab (weight2bpp (mode d) (modulation d)) 32 i 0 h

-- there are 32 of them, at either depth
pub weights-length : (two : Bool) (d : List ℕ) → length (word_of two d).weight ≡ 32
unfolding word_of
weights-length true d = length-tab (weight2bpp (mode d) (modulation d)) 32
weights-length false d =
    length-append (tab (weight4bpp (mode d) (modulation d)) 16) (drop 16 (replicate 32 0))
    ∙ ap (λ (n : ℕ). n + 16) (length-tab (weight4bpp (mode d) (modulation d)) 16)

pub weight-le : (two : Bool) (d : List ℕ) (i : ℕ) → i < cond two 32 16 → get_or (word_of two d).weight i 0 ≤ 8
weight-le true d i h = rw (weights-2 d i h) (weight2bpp-le (mode d) (modulation d) i)
weight-le false d i h = rw (weights-4 d i h) (weight4bpp-le (mode d) (modulation d) i)

-- bit i of a 4bpp word's flag says whether texel i is punched through; at 2bpp none is
pub punch-bit : (d : List ℕ) (i : ℕ) → i < 16 → (word_of false d).punch_through_flag / 2 ^ i % 2 ≡ cond (punch4bpp (mode d) (modulation d) i) 1 0
unfolding word_of
punch-bit d i h = flags-bit (punch4bpp (mode d) (modulation d)) 16 i h

pub never-punched : (d : List ℕ) → (word_of true d).punch_through_flag ≡ 0
unfolding word_of
never-punched d = refl

-- a 4bpp word fills nothing
pub never-filled : (d : List ℕ) → (word_of false d).fill ≡ Nothing
unfolding word_of
never-filled d = refl
