-- What a word's modulation says at 2bpp: rows of weights as the bytes of one number. Assumes nothing: these are definitions.
use Rattle.std.specs.Prelude.{Bool, true, cond, ◌&&◌, ◌||◌, List, [], ◌∷◌, ℕ, ◌+◌, ◌-◌, ◌*◌, ◌/◌, ◌%◌, ◌^◌, ◌≤◌, ◌<◌, eqb, get_or}
use Rattle.std.specs.Int.Bits.{bit_and}
use Rattle.facts.specs.Bits.{is_set}
use Rattle.facts.specs.Tab.{tab}
use Rattle.word.specs.Word.{modulation, mode, code, standard_weight, holds_code, adjusted, word_of}
use Rattle.lanes.specs.declared.FillRule.{FillRule}
use Rattle.lanes.specs.declared.Meaning.{Meaning}
use Rattle.lanes.specs.declared.Weights.{Weights}
use Rattle.lanes.specs.Lanes.{bytes}

-- Numbers as the bytes of one, from the low end.
abbrev pub row : List ℕ → ℕ
row [] = 0
row (x ∷ xs) = x + 256 * row xs

-- Eight of them.
unfoldable pub in_bytes : (ℕ → ℕ) → ℕ
in_bytes f = row (f 0 ∷ f 1 ∷ f 2 ∷ f 3 ∷ f 4 ∷ f 5 ∷ f 6 ∷ f 7 ∷ [])

-- Row y of a word's stored weights.
unfoldable pub weight_row : List ℕ → ℕ → ℕ
weight_row w y = in_bytes (λ x. get_or (word_of true w).weight (8 * y + x) 0)

-- The four rows.
unfoldable pub weight_rows : List ℕ → Weights
weight_rows w = record { rows = tab (weight_row w) 4 }

-- Weight x of row y by byte b of the modulation alone, in mode 1 if `one`; `bit` is the modulation's bit 0.
abbrev pub byte_weight : (one : Bool) (y : ℕ) (bit : Bool) (b x : ℕ) → ℕ
byte_weight one y bit b x =
    cond one
    (cond (holds_code (8 * y + x))
    (cond (eqb (8 * y + x) 0 || eqb (8 * y + x) 20 && bit) (adjusted (standard_weight (code b (x / 2)))) (standard_weight (code b (x / 2)))) 0)
    (cond (is_set b x) 8 0)

-- The row of them.
unfoldable pub byte_row : (one : Bool) (y : ℕ) (bit : Bool) (b : ℕ) → ℕ
byte_row one y bit b = in_bytes (byte_weight one y bit b)

-- A byte's bits as weights of 0 and 8, by a product.
unfoldable pub bit_row : ℕ → ℕ
bit_row b = bit_and ((bit_and (b * 0x0101010101010101) 0x8040201008040201 + 0x00406070787c7e7f) / 16) 0x0808080808080808

-- A byte's codes as weights at every other place, by a product.
unfoldable pub code_row : ℕ → ℕ
code_row b = 3 * bit_and (b * 0x0000040010004001) 0x0001000100010001 + 5 * (bit_and (b * 0x0000040010004001) 0x0002000200020002 / 2)

-- How a block is filled, by the words above it, its own and below it: the rows of weights over its edges, its mode, and how often the
-- weights beside a texel count, and those above and below it.
unfoldable pub fill_rule_of : (above own below : List ℕ) → FillRule
fill_rule_of above own below =
    let bit = modulation own % 2 in
    let high = modulation own / 1048576 % 2 in
    record {
      above = weight_row above 3;
      below = weight_row below 0;
      mode = mode own;
      beside = 1 + bit - 2 * bit * high;
      upright = 1 - bit + 2 * bit * high;
    }

-- Each weight's two neighbours beside it, added; left and right are the rows of the blocks to either side.
abbrev pub beside_row : (left own right : ℕ) → ℕ
beside_row left own right = (own % 72057594037927936 * 256 + left / 72057594037927936) + (own / 256 + right % 256 * 72057594037927936)

-- A row filled by one sum, for any rule.
unfoldable pub filled_row : FillRule → (keep left own right above below : ℕ) → ℕ
filled_row rule keep left own right above below =
    own + bit_and ((rule.beside * beside_row left own right + rule.upright * (above + below) + 0x0202020202020202) / 4) keep

-- The places that rows 0 and 2 fill in mode 1.
abbrev pub odds : ℕ
odds = 0x0f000f000f000f00

-- And rows 1 and 3.
abbrev pub evens : ℕ
evens = 0x000f000f000f000f

-- Row y of a block's weights, filled, from the stored rows of the three blocks.
abbrev pub filled_at : (left own right : Weights) → FillRule → ℕ → ℕ
filled_at left own right rule y =
    filled_row rule (cond rule.mode (cond (eqb (y % 2) 0) odds evens) 0) (get_or left.rows y 0) (get_or own.rows y 0) (get_or right.rows y 0)
    (cond (eqb y 0) rule.above (get_or own.rows (y - 1) 0)) (cond (eqb y 3) rule.below (get_or own.rows (y + 1) 0))

-- The four rows of them.
unfoldable pub filled_rows : (left own right : Weights) → FillRule → Weights
filled_rows left own right rule = record { rows = tab (filled_at left own right rule) 4 }

-- What a row of them says of texel x: nothing is punched through.
abbrev pub weight_meaning : (weights : ℕ) → ℕ → Meaning
weight_meaning weights x = record { weight = weights / 2 ^ (8 * x) % 16; keep = bytes }

-- A row whose every byte is at most 8, as far as the sums need to know it.
pub record LowRow (c : ℕ) : Type 0 where
  pub all : c ≤ 0x0808080808080808
  pub rest : c % 72057594037927936 ≤ 0x0008080808080808
  pub first : c % 256 ≤ 8

-- Four such rows.
pub record LowRows (k : Weights) : Type 0 where
  pub low : (y : ℕ) → y < 4 → LowRow (get_or k.rows y 0)

-- How often weights count: none, once or twice.
pub record FewTimes (rule : FillRule) : Type 0 where
  pub beside : rule.beside ≤ 2
  pub upright : rule.upright ≤ 2

-- A rule with such rows over the edges, and such counts.
pub record LowRule (rule : FillRule) : Type 0 where
  pub above : LowRow rule.above
  pub below : LowRow rule.below
  pub times : FewTimes rule
