-- Rows of stored weights, byte by byte of the modulation, and what filling them asks. Assumes nothing.
use Rattle.std.proofs.Common.{◌≡◌, ℕ, zero, suc, ◌+◌, ◌-◌, ◌*◌, ◌/◌, ◌%◌, ◌^◌, ◌<◌, ◌≤◌, Bool, true, false, cond, T, eqb, List, [], ◌∷◌, get_or, sym, refl}
use Rattle.std.proofs.Common.{ap, ◌∙◌, ap₂, arith, eqb→eq, shr-shr, mul-le-mul}
use lib.Pow.{field, mod-mod-pow}
use Rattle.facts.proofs.Finite.{below}
use Rattle.facts.proofs.Tab.{get_or-tab}
use Rattle.facts.specs.Bits.{is_set}
use Rattle.facts.specs.Finite.{all_below}
use Rattle.facts.specs.Tab.{tab}
use Rattle.word.proofs.Bounds.{weights-2, weight-le}
use Rattle.word.specs.Word.{modulation, mode, code, stored2bpp, weight2bpp}
use Rattle.lanes.specs.declared.FillRule.{FillRule}
use Rattle.lanes.specs.declared.Weights.{Weights}
use Rattle.lanes.specs.Column.{word_at}
use Rattle.lanes.specs.Block2bpp.{in_bytes, weight_row, weight_rows, byte_weight, byte_row, bit_row, code_row, fill_rule_of, filled_at, filled_rows}
use Rattle.lanes.specs.Block2bpp.{LowRow, LowRows, LowRule, beside_row, FewTimes}
use Rattle.lanes.proofs.ByteLanes.{bytes_same, low-row}
use Rattle.lanes.proofs.Reading.{byte-of}

-- the code's three forms of a row
abbrev spread_byte : Bool → ℕ → ℕ
spread_byte one b = cond one (code_row b) (bit_row b)

abbrev pub first_form : ℕ → ℕ
first_form v = v / 256 * 256 + (v % 256 + 3) / 8 * 8

abbrev pub third_form : Bool → ℕ → ℕ
third_form bit v =
    v - v / 4294967296 % 256 * 4294967296 + cond bit ((v / 4294967296 % 256 + 3) / 8 * 8) (v / 4294967296 % 256) * 4294967296

-- each of the 256 bytes is tried
every_byte : (f g : ℕ → ℕ) → T (all_below (λ b. eqb (f b) (g b)) 256) → (b : ℕ) → b < 256 → f b ≡ g b
every_byte f g t b h = eqb→eq (f b) (g b) (below (λ b. eqb (f b) (g b)) 256 t b h)

pub first-is : (one : Bool) (b : ℕ) → b < 256 → first_form (spread_byte one b) ≡ byte_row one 0 false b
unfolding bit_row code_row byte_row in_bytes
first-is true = every_byte (λ b. first_form (spread_byte true b)) (byte_row true 0 false) tt
first-is false = every_byte (λ b. first_form (spread_byte false b)) (byte_row false 0 false) tt

pub odd_is : (one : Bool) (b : ℕ) → b < 256 → cond one (code_row b * 256) (bit_row b) ≡ byte_row one 1 false b
unfolding bit_row code_row byte_row in_bytes
odd_is true = every_byte (λ b. code_row b * 256) (byte_row true 1 false) tt
odd_is false = every_byte bit_row (byte_row false 1 false) tt

pub third-is : (one bit : Bool) (b : ℕ) → b < 256 → third_form bit (spread_byte one b) ≡ byte_row one 2 bit b
unfolding bit_row code_row byte_row in_bytes
third-is true true = every_byte (λ b. third_form true (spread_byte true b)) (byte_row true 2 true) tt
third-is true false = every_byte (λ b. third_form false (spread_byte true b)) (byte_row true 2 false) tt
third-is false true = every_byte (λ b. third_form true (spread_byte false b)) (byte_row false 2 true) tt
third-is false false = every_byte (λ b. third_form false (spread_byte false b)) (byte_row false 2 false) tt

-- in rows 0, 1 and 3 bit 0 of the modulation does not count, and row 3 goes like row 1
module _ (one bit : Bool) (b : ℕ) where
  row-0-any : byte_row one 0 false b ≡ byte_row one 0 bit b
  unfolding byte_row in_bytes
  row-0-any = refl

  row-1-any : byte_row one 1 false b ≡ byte_row one 1 bit b
  unfolding byte_row in_bytes
  row-1-any = refl

  row-3-any : byte_row one 1 false b ≡ byte_row one 3 bit b
  unfolding byte_row in_bytes
  row-3-any = refl

-- w bits of a byte are the number's
bits_of : (n x w : ℕ) → x + w ≤ 8 → n % 256 / 2 ^ x % 2 ^ w ≡ n / 2 ^ x % 2 ^ w
bits_of n x w h =
    let all : 8 ≡ 8 - (x + w) + w + x = omega arith in
    ap (λ (k : ℕ). n % 2 ^ k / 2 ^ x % 2 ^ w) all ∙ ap (λ (m : ℕ). m % 2 ^ w) (field n (8 - (x + w) + w) x) ∙ mod-mod-pow (n / 2 ^ x) (8 - (x + w)) w

-- byte y of the modulation
abbrev byte_of : ℕ → ℕ → ℕ
byte_of m y = m / 2 ^ (8 * y) % 256

weight-byte : (one : Bool) (m y x : ℕ) → x < 8 → weight2bpp one m (8 * y + x) ≡ byte_weight one y (is_set m 0) (byte_of m y) x
unfolding weight2bpp stored2bpp
weight-byte one m y x h =
    let rest = m / 2 ^ (8 * y) in
    let e : (8 * y + x) / 2 ≡ 4 * y + x / 2 = omega arith in
    let f : 2 * (4 * y + x / 2) ≡ 8 * y + 2 * (x / 2) = omega arith in
    let bit : m / 2 ^ (8 * y + x) % 2 ≡ byte_of m y / 2 ^ x % 2 = ap (λ (n : ℕ). n % 2) (sym (shr-shr m (8 * y) x)) ∙ sym (bits_of rest x 1 (omega arith)) in
    let two : code m ((8 * y + x) / 2) ≡ code (byte_of m y) (x / 2) =
    ap (code m) e ∙ ap (λ (n : ℕ). m / 2 ^ n % 4) f ∙ ap (λ (n : ℕ). n % 4) (sym (shr-shr m (8 * y) (2 * (x / 2))))
    ∙ sym (bits_of rest (2 * (x / 2)) 2 (omega arith)) in
    rw (bit, two)

-- a row of a word's weights, by its byte of the modulation
module _ (w : List ℕ) (y : ℕ) (h : y < 4) where
  place-lt : (x : ℕ) → x < 8 → 8 * y + x < 32
  place-lt x hx = omega arith

  row_is : weight_row w y ≡ byte_row (mode w) y (is_set (modulation w) 0) (byte_of (modulation w) y)
  unfolding weight_row byte_row
  row_is = bytes_same _ _ (λ x hx. weights-2 w (8 * y + x) (place-lt x hx) ∙ weight-byte (mode w) (modulation w) y x hx)

  row_low : LowRow (weight_row w y)
  unfolding weight_row
  row_low = low-row _ (λ x hx. weight-le true w (8 * y + x) (place-lt x hx))

byte-is : (w : List ℕ) → ((i : ℕ) → get_or w i 0 < 256) → (y : ℕ) → y < 4 → get_or w y 0 ≡ byte_of (modulation w) y
byte-is w small zero h = omega (arith, small 0)
byte-is w small (suc zero) h = omega (arith, small 0, small 1)
byte-is w small (suc (suc zero)) h = omega (arith, small 0, small 1, small 2)
byte-is w small (suc (suc (suc zero))) h = omega (arith, small 0, small 1, small 2, small 3)
byte-is w small (suc (suc (suc (suc y)))) h = absurd (omega arith)

-- the rows of word z, as the code reads them
module _ (d : List ℕ) (z : ℕ) (small : (i : ℕ) → get_or d i 0 < 256) {one : Bool} (em : one ≡ mode (word_at d z)) where
  abbrev w : List ℕ
  w = word_at d z

  abbrev first : Bool
  first = is_set (modulation w) 0

  abbrev Reads : ℕ → ℕ → Type 0
  Reads y r = (r ≡ weight_row w y) × LowRow r

  row_of : (y : ℕ) {at r : ℕ} → y < 4 → at ≡ 8 * z + y → r ≡ byte_row one y first (get_or d at 0) → Reads y r
  row_of y {at} h ea er =
      let byte : get_or d at 0 ≡ byte_of (modulation w) y =
      ap (λ (n : ℕ). get_or d n 0) ea ∙ sym (byte-of d z y) ∙ byte-is w (λ i. rw (byte-of d z i) (small (8 * z + i))) y h in
      let e = er ∙ ap₂ (λ (t : Bool) (b : ℕ). byte_row t y first b) em byte ∙ sym (row_is w y h) in
      (e, rw e (row_low w y h))

  pub row-0 : {r : ℕ} → r ≡ byte_row one 0 false (get_or d (8 * z) 0) → Reads 0 r
  row-0 er = row_of 0 (omega arith) (omega arith) (er ∙ row-0-any _ first _)

  pub row-1 : {r : ℕ} → r ≡ byte_row one 1 false (get_or d (8 * z + 1) 0) → Reads 1 r
  row-1 er = row_of 1 (omega arith) refl (er ∙ row-1-any _ first _)

  pub row-2 : {r : ℕ} → r ≡ byte_row one 2 (eqb (get_or d (8 * z) 0 % 2) 1) (get_or d (8 * z + 2) 0) → Reads 2 r
  row-2 er =
      let start : 8 * z ≡ 8 * z + 0 = omega arith in
      let e = ap (λ (n : ℕ). get_or d n 0) start ∙ sym (byte-of d z 0) in
      let bit : get_or d (8 * z) 0 % 2 ≡ modulation w / 2 ^ 0 % 2 = omega arith in
      row_of 2 (omega arith) refl (er ∙ ap (λ (n : ℕ). byte_row one 2 (eqb n 1) (get_or d (8 * z + 2) 0)) bit)

  pub row-3 : {r : ℕ} → r ≡ byte_row one 1 false (get_or d (8 * z + 3) 0) → Reads 3 r
  row-3 er = row_of 3 (omega arith) refl (er ∙ row-3-any _ first _)

-- the four rows
pub rows_are : (w : List ℕ) {r0 r1 r2 r3 : ℕ} → r0 ≡ weight_row w 0 → r1 ≡ weight_row w 1 → r2 ≡ weight_row w 2 → r3 ≡ weight_row w 3
    → let k : Weights = record { rows = r0 ∷ r1 ∷ r2 ∷ r3 ∷ [] } in (k ≡ weight_rows w) × LowRows k
unfolding weight_rows tab
rows_are w e0 e1 e2 e3 = rw (e0, e1, e2, e3) (refl, record { low = λ y h. rw (get_or-tab (weight_row w) 4 y 0 h) (row_low w y h) })

-- two bits, and how the fill counts by them
pub two-bits : (a b : ℕ) → a < 2 → b < 2 → (2 * a * b ≤ 1 + a) × (1 + a - 2 * a * b ≤ 2) × (1 - a + 2 * a * b ≤ 2)
two-bits zero b ha hb = (omega arith, omega arith, omega arith)
two-bits (suc zero) zero ha hb = (omega arith, omega arith, omega arith)
two-bits (suc zero) (suc zero) ha hb = (omega arith, omega arith, omega arith)
two-bits (suc zero) (suc (suc b)) ha hb = absurd (omega arith)
two-bits (suc (suc a)) b ha hb = absurd (omega arith)

high_bit : (a b c e : ℕ) → a < 256 → b < 256 → c / 16 % 2 ≡ (a + 256 * b + 65536 * c + 16777216 * e) / 1048576 % 2
high_bit a b c e ha hb = omega arith

-- how a block is filled, as the code reads it
pub rule-is : (d : List ℕ) (above own below : ℕ) → ((i : ℕ) → get_or d i 0 < 256) → {one : Bool} {u e : ℕ} → one ≡ mode (word_at d own)
    → (u ≡ weight_row (word_at d above) 3) × LowRow u → (e ≡ weight_row (word_at d below) 0) × LowRow e
    → let b = get_or d (8 * own) 0 in
    let c = get_or d (8 * own + 2) 0 in
    let k : FillRule = record {
      above = u;
      below = e;
      mode = one;
      beside = 1 + b % 2 - 2 * (b % 2) * (c / 16 % 2);
      upright = 1 - b % 2 + 2 * (b % 2) * (c / 16 % 2);
    } in (k ≡ fill_rule_of (word_at d above) (word_at d own) (word_at d below)) × LowRule k
unfolding fill_rule_of
rule-is d above own below small em eu ee =
    let w = word_at d own in
    let b = get_or d (8 * own) 0 in
    let c = get_or d (8 * own + 2) 0 in
    let low : (i : ℕ) → get_or w i 0 < 256 = λ i. rw (byte-of d own i) (small (8 * own + i)) in
    let start : 8 * own ≡ 8 * own + 0 = omega arith in
    let at-0 = ap (λ (n : ℕ). get_or d n 0) start ∙ sym (byte-of d own 0) in
    let bit : b % 2 ≡ modulation w % 2 = omega arith in
    let high : c / 16 % 2 ≡ modulation w / 1048576 % 2 =
    ap (λ (n : ℕ). n / 16 % 2) (sym (byte-of d own 2)) ∙ high_bit (get_or w 0 0) (get_or w 1 0) (get_or w 2 0) (get_or w 3 0) (low 0) (low 1) in
    let times = two-bits (b % 2) (c / 16 % 2) (omega arith) (omega arith) in (
      rw (← bit, ← high, ← em, eu.0, ee.0),
      record { above = eu.1; below = ee.1; times = record { beside = times.1; upright = times.2 } },
    )

-- the sums of a fill fit
pub beside-le : (l c r : ℕ) → LowRow l → LowRow c → LowRow r → beside_row l c r ≤ 0x1010101010101010
beside-le l c r hl hc hr = total (moved hc.rest) (over hl.all) (back hc.all) hr.first
  where
    moved : {a : ℕ} → a ≤ 0x0008080808080808 → a * 256 ≤ 0x0808080808080800
    moved h = omega arith

    over : {a : ℕ} → a ≤ 0x0808080808080808 → a / 72057594037927936 ≤ 8
    over h = omega arith

    back : {a : ℕ} → a ≤ 0x0808080808080808 → a / 256 ≤ 0x0008080808080808
    back h = omega arith

    total : {a b c d : ℕ} → a ≤ 0x0808080808080800 → b ≤ 8 → c ≤ 0x0008080808080808 → d ≤ 8 → (a + b) + (c + d * 72057594037927936) ≤ 0x1010101010101010
    total ha hb hc hd = omega arith

pub sum_fits : (rule : FillRule) (l c r u e : ℕ) → FewTimes rule → LowRow l × LowRow c × LowRow r × LowRow u × LowRow e
    → rule.beside * beside_row l c r + rule.upright * (u + e) + 0x0202020202020202 < 18446744073709551616
sum_fits rule l c r u e few low =
    let a : u + e ≤ 0x1010101010101010 = omega (arith, low.3.all, low.4.all) in
    omega (arith, mul-le-mul few.beside (beside-le l c r low.0 low.1 low.2), mul-le-mul few.upright a)

-- the four rows, as the code fills them
pub filled-are : (l c r : Weights) (rule : FillRule) {w0 w1 w2 w3 : ℕ} → w0 ≡ filled_at l c r rule 0 → w1 ≡ filled_at l c r rule 1
    → w2 ≡ filled_at l c r rule 2 → w3 ≡ filled_at l c r rule 3 → record { rows = w0 ∷ w1 ∷ w2 ∷ w3 ∷ [] } ≡ filled_rows l c r rule
unfolding filled_rows tab
filled-are l c r rule e0 e1 e2 e3 = rw (e0, e1, e2, e3)
