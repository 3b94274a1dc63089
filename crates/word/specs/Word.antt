-- One word of a picture's data, as document 01 says it ("One word"). Assumes nothing: these are definitions.
-- `d` is the list of bytes that starts with the word's eight; a byte past its end counts as 0.
use Rattle.std.specs.Prelude.{Bool, cond, ◌&&◌, ◌||◌, List, [], ◌∷◌, ◌++◌, ℕ, ◌+◌, ◌*◌, ◌/◌, ◌%◌, ◌^◌, ◌≤◌, eqb, get_or, drop, replicate}
use Rattle.std.specs.Int.Bits.{bit_and}
use Rattle.facts.specs.Bits.{is_set, bits, flags}
use Rattle.facts.specs.Tab.{tab}
use Rattle.word.specs.declared.Fill.{Fill}
use Rattle.word.specs.declared.Fill.TheVariants.{Nothing, Around, AboveBelow, LeftRight}
use Rattle.word.specs.declared.PVRTCTexelColor.{PVRTCTexelColor}
use Rattle.word.specs.declared.PVRTCTexelInfo.{PVRTCTexelInfo}

-- Bytes 0 to 3: modulation, little-endian.
abbrev pub modulation : List ℕ → ℕ
modulation d = get_or d 0 0 + 256 * get_or d 1 0 + 65536 * get_or d 2 0 + 16777216 * get_or d 3 0

-- Bytes 4 and 5: colour A.
abbrev pub color_a : List ℕ → ℕ
color_a d = get_or d 4 0 + 256 * get_or d 5 0

-- Bytes 6 and 7: colour B.
abbrev pub color_b : List ℕ → ℕ
color_b d = get_or d 6 0 + 256 * get_or d 7 0

-- The mode is bit 0 of colour A: true is mode 1.
abbrev pub mode : List ℕ → Bool
mode d = is_set (color_a d) 0

-- Bit 15 of a colour set means opaque.
abbrev pub opaque : ℕ → Bool
opaque c = is_set c 15

-- Red: bits 14..10 if opaque; else bits 11..8 followed by their top bit.
abbrev pub red : ℕ → ℕ
red c = cond (opaque c) (bits c 14 10) (bits c 11 8 * 2 + bits c 11 11)

-- Green: bits 9..5 if opaque; else bits 7..4 followed by their top bit.
abbrev pub green : ℕ → ℕ
green c = cond (opaque c) (bits c 9 5) (bits c 7 4 * 2 + bits c 7 7)

-- Alpha: 15 if opaque; else bits 14..12 then a zero.
abbrev pub alpha : ℕ → ℕ
alpha c = cond (opaque c) 15 (bits c 14 12 * 2)

-- A's blue: bits 4..1 then bit 4 again if opaque; else bits 3..1 then bits 3..2.
abbrev pub blue_a : ℕ → ℕ
blue_a c = cond (opaque c) (bits c 4 1 * 2 + bits c 4 4) (bits c 3 1 * 4 + bits c 3 2)

-- B's blue: bits 4..0 if opaque; else bits 3..0 then bit 3.
abbrev pub blue_b : ℕ → ℕ
blue_b c = cond (opaque c) (bits c 4 0) (bits c 3 0 * 2 + bits c 3 3)

-- A colour with its blue, which alone is read differently in A and in B.
abbrev pub color_of : ℕ → ℕ → PVRTCTexelColor
color_of c blue = record { r = red c; g = green c; b = blue; a = alpha c }

-- A colour's channels have five bits, its alpha four.
pub record Small (c : PVRTCTexelColor) : Type 0 where
  pub r : c.r ≤ 31
  pub g : c.g ≤ 31
  pub b : c.b ≤ 31
  pub a : c.a ≤ 15

-- The record with the word's two colours, and the rest of it as it was.
abbrev pub with_colors : List ℕ → PVRTCTexelInfo → PVRTCTexelInfo
with_colors d info =
    record {
      a = color_of (color_a d) (blue_a (color_a d));
      b = color_of (color_b d) (blue_b (color_b d));
      weight = info.weight;
      punch_through_flag = info.punch_through_flag;
      fill = info.fill;
    }

-- The two-bit code at place k of the modulation m: bits 2k + 1 and 2k.
abbrev pub code : ℕ → ℕ → ℕ
code m k = m / 2 ^ (2 * k) % 4

-- What codes 0..3 mean.
abbrev pub standard_weights : List ℕ
standard_weights = 0 ∷ 3 ∷ 5 ∷ 8 ∷ []

abbrev pub standard_weight : ℕ → ℕ
standard_weight c = get_or standard_weights c 0

-- What codes 0..3 mean at 4bpp in mode 1.
abbrev pub punch_through_weights : List ℕ
punch_through_weights = 0 ∷ 4 ∷ 4 ∷ 8 ∷ []

abbrev pub punch_through_weight : ℕ → ℕ
punch_through_weight c = get_or punch_through_weights c 0

-- 4bpp: the weight of texel i = 4y + x, in mode 1 if `one`.
unfoldable pub weight4bpp : (one : Bool) → ℕ → ℕ → ℕ
weight4bpp one m i = cond one (punch_through_weight (code m i)) (standard_weight (code m i))

-- 4bpp: whether alpha becomes 0 at texel i: in mode 1, code 2.
unfoldable pub punch4bpp : (one : Bool) → ℕ → ℕ → Bool
punch4bpp one m i = one && eqb (code m i) 2

-- 4bpp: the record with the word's sixteen weights, and bit i of the flag set where texel i is punched through.
abbrev pub with_weights_4bpp : List ℕ → PVRTCTexelInfo → PVRTCTexelInfo
with_weights_4bpp d info =
    record {
      a = info.a;
      b = info.b;
      weight = tab (weight4bpp (mode d) (modulation d)) 16 ++ drop 16 info.weight;
      punch_through_flag = flags (punch4bpp (mode d) (modulation d)) 16;
      fill = Nothing;
    }

-- 2bpp, mode 1: texel i = 8y + x holds a code of its own where x + y is even.
abbrev pub holds_code : ℕ → Bool
holds_code i = eqb ((i % 8 + i / 8) % 2) 0

-- 2bpp, mode 1: texel 0 gives up a bit of its code, and texel 20 too if bit 0 of the modulation is set.
abbrev pub gives_bit : ℕ → ℕ → Bool
gives_bit m i = eqb i 0 || eqb i 20 && is_set m 0

-- What such a texel's weight becomes.
abbrev pub adjusted : ℕ → ℕ
adjusted w = bit_and (w + 3) 8

-- 2bpp, mode 1: the weight that texel i holds, the codes being in row order. It is this weight, adjusted, that a neighbour block's
-- filling reads over the edge.
unfoldable pub stored2bpp : ℕ → ℕ → ℕ
stored2bpp m i =
    cond (gives_bit m i) (adjusted (standard_weight (code m (i / 2)))) (standard_weight (code m (i / 2)))

-- 2bpp: the weight of texel i. In mode 1 it is 0 where the texel holds no code and is filled; in mode 0 bit i set means 8, else 0.
unfoldable pub weight2bpp : (one : Bool) → ℕ → ℕ → ℕ
weight2bpp one m i = cond one (cond (holds_code i) (stored2bpp m i) 0) (cond (is_set m i) 8 0)

-- 2bpp: how the others are filled in mode 1. Bit 0 clear, from all four neighbours; bits 0 and 20 set, from above and below; bit 0
-- set alone, from left and right.
unfoldable pub fill2bpp : (one : Bool) → ℕ → Fill
fill2bpp one m = cond one (cond (is_set m 0) (cond (is_set m 20) AboveBelow LeftRight) Around) Nothing

-- 2bpp: the record with the word's 32 weights and its fill rule. No texel is punched through.
abbrev pub with_weights_2bpp : List ℕ → PVRTCTexelInfo → PVRTCTexelInfo
with_weights_2bpp d info =
    record {
      a = info.a;
      b = info.b;
      weight = tab (weight2bpp (mode d) (modulation d)) 32;
      punch_through_flag = 0;
      fill = fill2bpp (mode d) (modulation d);
    }

-- The record before anything is read into it.
abbrev pub unread : PVRTCTexelInfo
unread =
    record {
      a = record { r = 0; g = 0; b = 0; a = 0 };
      b = record { r = 0; g = 0; b = 0; a = 0 };
      weight = replicate 32 0;
      punch_through_flag = 0;
      fill = Nothing;
    }

-- The whole word, at 2bpp if `two`.
unfoldable pub word_of : (two : Bool) → List ℕ → PVRTCTexelInfo
word_of two d = cond two (with_weights_2bpp d (with_colors d unread)) (with_weights_4bpp d (with_colors d unread))
