-- The fields of a 64-bit word are the parts of its eight bytes: the modulation below, colour A, colour B on top. Assumes nothing.
use Rattle.std.proofs.Common.{◌≡◌, ℕ, ◌+◌, ◌*◌, ◌/◌, ◌%◌, ◌^◌, ◌<◌, eqb, List, ap, arith}
use Rattle.facts.specs.Bits.{is_set}
use Rattle.word.specs.Word.{modulation, color_a, color_b}
use Rattle.khronos.specs.Agrees.{Bytes}
use Rattle.khronos.specs.Khronos.{word64, flag, modulation_bits, mode_flag}

-- the word w has the modulation m and the colours a and b
pub record Parts (w m a b : ℕ) : Type 0 where
  pub whole : w ≡ m + 2 ^ 32 * a + 2 ^ 48 * b
  pub low : m < 2 ^ 32
  pub middle : a < 2 ^ 16
  pub high : b < 2 ^ 16

pub parts : (d : List ℕ) → Bytes d → Parts (word64 d) (modulation d) (color_a d) (color_b d)
unfolding word64
parts d l =
    record {
      whole = omega arith;
      low = omega (arith, l 0, l 1, l 2, l 3);
      middle = omega (arith, l 4, l 5);
      high = omega (arith, l 6, l 7);
    }

-- bits that are equal as numbers are set alike
pub set-alike : (u v : ℕ) → u ≡ v → eqb u 1 ≡ eqb v 1
set-alike u v e = ap (λ (n : ℕ). eqb n 1) e

module _ {w m a b : ℕ} (p : Parts w m a b) where
  pub is-modulation : modulation_bits w ≡ m
  is-modulation = omega arith

  pub is-mode : mode_flag w ≡ is_set a 0
  is-mode = set-alike (w / 2 ^ 32 % 2) (a / 2 ^ 0 % 2) (omega arith)

  -- bits 0 and 20 say how a word fills
  pub bit-0 : flag w 0 ≡ is_set m 0
  bit-0 = set-alike (w / 2 ^ 0 % 2) (m / 2 ^ 0 % 2) (omega arith)

  pub bit-20 : flag w 20 ≡ is_set m 20
  bit-20 = set-alike (w / 2 ^ 20 % 2) (m / 2 ^ 20 % 2) (omega arith)
