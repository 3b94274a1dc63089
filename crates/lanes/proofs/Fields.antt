-- Three channels as fields of five bits in one number, and how one product lays them in lanes. Assumes nothing.
use Rattle.std.proofs.Common.{◌≡◌, ℕ, ◌+◌, ◌*◌, ◌/◌, ◌%◌, ◌<◌, Bool, true, false, cond, bit_and, refl, ap, ◌∙◌, ap₂, arith}
use native.Mathlib.Nat.{div-div-eq-div-mul}
use lib.Bits.{and_block, and_mask}
use Rattle.pixel.specs.declared.ChannelOrder.{ChannelOrder}
use Rattle.pixel.specs.declared.ChannelOrder.TheVariants.{BlueFirst, RedFirst}
use Rattle.word.specs.Word.{opaque, color_of}
use Rattle.lanes.specs.Lanes.{channel_lanes, color_lanes, widened, spread_of}
use Rattle.lanes.proofs.Lane.{step}

abbrev pub fields : (b g r : ℕ) → ℕ
fields b g r = b + 32 * g + 1024 * r

-- the fields of three numbers of five bits
module _ (b g r : ℕ) (hb : b < 32) (hg : g < 32) (hr : r < 32) where
  pub blue-is : fields b g r % 32 ≡ b
  blue-is = omega arith

  pub green-is : fields b g r / 32 % 32 ≡ g
  green-is = let k : fields b g r / 32 ≡ g + 32 * r = omega arith in omega arith

  pub red-is : fields b g r / 1024 ≡ r
  red-is = omega arith

  -- together they are a number of fifteen bits
  pub fields-low : fields b g r < 32768
  fields-low = omega arith

-- fields of four bits, each followed by its top bit
module _ (b g r : ℕ) (hb : b < 16) (hg : g < 16) (hr : r < 16) where
  by-fives : (x rest low m v w : ℕ) → x < 32 → low < 32 → bit_and x low ≡ v → bit_and rest m ≡ w → bit_and (x + 32 * rest) (low + 32 * m) ≡ v + 32 * w
  by-fives x rest low m v w h hl k l =
      let p : x + 32 * rest ≡ rest * 32 + x = omega arith in
      let q : low + 32 * m ≡ m * 32 + low = omega arith in
      let e : bit_and rest m * 32 + bit_and x low ≡ v + 32 * w = omega arith in
      ap₂ bit_and p q ∙ and_block 5 rest m x low h hl ∙ e

  tops : bit_and (fields b g r / 8) 0x0421 ≡ fields (b / 8) (g / 8) (r / 8)
  tops =
      let e : fields b g r / 8 ≡ (b / 8 + 4 * (g % 8)) + 32 * ((g / 8 + 4 * (r % 8)) + 32 * (r / 8)) = omega arith in
      let one : (n : ℕ) → bit_and n 1 ≡ n % 2 = λ n. and_mask n 1 in
      ap (λ (n : ℕ). bit_and n 0x0421) e
      ∙ by-fives (b / 8 + 4 * (g % 8)) ((g / 8 + 4 * (r % 8)) + 32 * (r / 8)) 1 33 (b / 8) (g / 8 + 32 * (r / 8)) (omega arith) (omega arith)
      (one (b / 8 + 4 * (g % 8)) ∙ omega arith)
      (by-fives (g / 8 + 4 * (r % 8)) (r / 8) 1 1 (g / 8) (r / 8) (omega arith) (omega arith)
      (one (g / 8 + 4 * (r % 8)) ∙ omega arith) (one (r / 8) ∙ omega arith))
      ∙ omega arith

  pub widened_is : widened (fields b g r) ≡ fields (b * 2 + b / 8) (g * 2 + g / 8) (r * 2 + r / 8)
  widened_is = omega (arith, tops)

-- blue and red alone
outer : (f : ℕ) → f < 32768 → bit_and f 0x7c1f ≡ f % 32 + 1024 * (f / 1024)
outer f h =
    let e : f ≡ f / 1024 * 1024 + f % 1024 = omega arith in
    ap (λ (n : ℕ). bit_and n 0x7c1f) e ∙ and_block 10 (f / 1024) 31 (f % 1024) 31 (omega arith) (omega arith)
    ∙ ap₂ (λ (x y : ℕ). x * 1024 + y) (and_mask (f / 1024) 5) (and_mask (f % 1024) 5) ∙ omega arith

-- by their order's factor they come to stand in their lanes
apart : (order : ChannelOrder) (b r : ℕ) → b < 32 → r < 32
    → bit_and ((b + 1024 * r) * spread_of order / 1024) 0x001f001f ≡ channel_lanes order b 0 r 0
apart BlueFirst b r hb hr =
    let e : (b + 1024 * r) * 0x00010400 / 1024 ≡ (65 * b + 1024 * r) + 65536 * r = omega arith in
    ap (λ (n : ℕ). bit_and n 0x001f001f) e
    ∙ step (65 * b + 1024 * r) r 31 31 b (omega arith) (omega arith) (and_mask (65 * b + 1024 * r) 5 ∙ omega arith)
    ∙ ap (λ (n : ℕ). b + 65536 * n) (and_mask r 5) ∙ omega arith
apart RedFirst b r hb hr =
    let e : (b + 1024 * r) * 0x04000001 / 1024 ≡ r + 65536 * (b + 1024 * r) = omega arith in
    ap (λ (n : ℕ). bit_and n 0x001f001f) e
    ∙ step r (b + 1024 * r) 31 31 r (omega arith) (omega arith) (and_mask r 5 ∙ omega arith)
    ∙ ap (λ (n : ℕ). r + 65536 * n) (and_mask (b + 1024 * r) 5) ∙ omega arith

with_rest : (order : ChannelOrder) (b g r a : ℕ) → channel_lanes order b 0 r 0 + 4294967296 * g + 281474976710656 * a ≡ channel_lanes order b g r a
with_rest BlueFirst b g r a = omega arith
with_rest RedFirst b g r a = omega arith

-- so a number of three fields as lanes, as the code makes them
pub in-lanes : (order : ChannelOrder) (f a : ℕ) {s : ℕ} → f < 32768 → s ≡ spread_of order
    → bit_and (bit_and f 0x7c1f * s / 1024) 0x001f001f + 4294967296 * (f / 32 % 32) + 281474976710656 * a
    ≡ channel_lanes order (f % 32) (f / 32 % 32) (f / 1024) a
in-lanes order f a {s} h es =
    let e = ap₂ (λ (n m : ℕ). bit_and (n * m / 1024) 0x001f001f) (outer f h) es ∙ apart order (f % 32) (f / 1024) (omega arith) (omega arith) in
    ap (λ (n : ℕ). n + 4294967296 * (f / 32 % 32) + 281474976710656 * a) e ∙ with_rest order (f % 32) (f / 32 % 32) (f / 1024) a

-- the fields of a colour where it is opaque, and where it is not, with the blue b
abbrev pub opaque_fields : ℕ → ℕ → ℕ
opaque_fields c b = fields b (c / 32 % 32) (c / 1024 % 32)

abbrev pub clear_fields : ℕ → ℕ → ℕ
clear_fields c b = fields b (c / 16 % 16 * 2 + c / 128 % 2) (c / 256 % 16 * 2 + c / 2048 % 2)

-- four lanes of fields that are one colour's or the other's
module _ (order : ChannelOrder) (c b b' : ℕ) (hb : b < 32) (hb' : b' < 32) {f a : ℕ} (ef : f ≡ cond (opaque c) (opaque_fields c b) (clear_fields c b'))
    (ea : a ≡ cond (opaque c) 30 (c / 4096 % 8 * 4)) where
  abbrev Are : Bool → Type 0
  Are t =
      (cond t (opaque_fields c b) (clear_fields c b') % 32 ≡ cond t b b')
      × (cond t (opaque_fields c b) (clear_fields c b') / 32 % 32 ≡ cond t (c / 32 % 32) (c / 16 % 16 * 2 + c / 128 % 2))
      × (cond t (opaque_fields c b) (clear_fields c b') / 1024 ≡ cond t (c / 1024 % 32) (c / 256 % 16 * 2 + c / 2048 % 2))
      × (cond t 30 (c / 4096 % 8 * 4) ≡ 2 * cond t 15 (c / 4096 % 8 * 2))

  are : (t : Bool) → Are t
  are true =
      let g = c / 32 % 32 in
      let r = c / 1024 % 32 in
      (blue-is b g r hb (omega arith) (omega arith), green-is b g r hb (omega arith) (omega arith), red-is b g r hb (omega arith) (omega arith), refl)
  are false =
      let g = c / 16 % 16 * 2 + c / 128 % 2 in
      let r = c / 256 % 16 * 2 + c / 2048 % 2 in (
        blue-is b' g r hb' (omega arith) (omega arith),
        green-is b' g r hb' (omega arith) (omega arith),
        red-is b' g r hb' (omega arith) (omega arith),
        omega arith,
      )

  pub color-lanes : {r : ℕ} → r ≡ channel_lanes order (f % 32) (f / 32 % 32) (f / 1024) a → r ≡ color_lanes order (color_of c (cond (opaque c) b b'))
  color-lanes er =
      let k = are (opaque c) in
      er ∙ rw (ef, ea, k.0, k.1, k.2, k.3)

-- the top bit of four
top_bit : (n : ℕ) → n % 16 / 8 ≡ n / 8 % 2
top_bit n = omega arith

-- the upper four bits of five
four-of-five : (n : ℕ) → n % 32 / 2 ≡ n / 2 % 16
four-of-five n = omega arith

-- the fields of colour A, and of B, as the code makes them; w is what was widened
module _ (c : ℕ) where
  pub opaque-b : c % 32768 ≡ opaque_fields c (c % 32)
  opaque-b = omega arith

  pub opaque-a : c % 32768 / 2 * 2 + c / 16 % 2 ≡ opaque_fields c (c / 2 % 16 * 2 + c / 16 % 2)
  opaque-a =
      let e = opaque-b in
      let halves : c % 32768 / 2 ≡ c % 32 / 2 + 16 * (c / 32 % 32) + 512 * (c / 1024 % 32) = omega arith in
      rw (halves ∙ ap (λ (n : ℕ). n + 16 * (c / 32 % 32) + 512 * (c / 1024 % 32)) (four-of-five c)) (omega arith)

  -- with four bits of blue
  four-bits : (b : ℕ) → b < 16 → widened (fields b (c / 16 % 16) (c / 256 % 16)) ≡ clear_fields c (b * 2 + b / 8)
  four-bits b h =
      let g = top_bit (c / 16) ∙ ap (λ (n : ℕ). n % 2) (div-div-eq-div-mul c 16 8) in
      let r = top_bit (c / 256) ∙ ap (λ (n : ℕ). n % 2) (div-div-eq-div-mul c 256 8) in
      widened_is b (c / 16 % 16) (c / 256 % 16) h (omega arith) (omega arith) ∙ omega arith

  pub clear-a : (b : ℕ) {w : ℕ} → w ≡ widened (32 * (c / 16 % 16) + 1024 * (c / 256 % 16)) → w + b ≡ clear_fields c b
  clear-a b ew =
      let e : 32 * (c / 16 % 16) + 1024 * (c / 256 % 16) ≡ fields 0 (c / 16 % 16) (c / 256 % 16) = omega arith in
      omega (arith, ew ∙ ap widened e ∙ four-bits 0 (omega arith))

  pub clear-b : {w : ℕ} → w ≡ widened (fields (c % 16) (c / 16 % 16) (c / 256 % 16)) → w ≡ clear_fields c (c % 16 * 2 + c / 8 % 2)
  clear-b ew = ew ∙ four-bits (c % 16) (omega arith) ∙ ap (λ (n : ℕ). clear_fields c (c % 16 * 2 + n)) (top_bit c)
