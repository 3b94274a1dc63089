-- Laws of four numbers as the 16-bit lanes of one: masks and shifts act on each lane apart. Assumes nothing.
use Rattle.std.proofs.Common.{◌≡◌, ℕ, ◌+◌, ◌-◌, ◌*◌, ◌/◌, ◌%◌, ◌<◌, ◌≤◌, Bool, true, false, cond, bit_and, refl, ap, ◌∙◌, ap₂, mul-le-mul_right, mod-lt}
use Rattle.std.proofs.Common.{mul_assoc, add-mul, mul-le-mul_left, div-add-mod', mul-add, arith}
use native.Mathlib.Nat.{add-mul-div_right, add-mul-mod_self_right}
use lib.Bits.{and_block, and_high, and_le_r, and_mask, and_mod, and_zero_r}
use Rattle.facts.proofs.Numbers.{cond-le}
use Rattle.grid.specs.Grid.{half}
use Rattle.pixel.specs.Pixel.{packed, EightBits}
use Rattle.pixel.specs.declared.ChannelOrder.{ChannelOrder}
use Rattle.pixel.specs.declared.ChannelOrder.TheVariants.{BlueFirst, RedFirst}
use Rattle.texel.specs.declared.PVRTCTexelColorInt.{PVRTCTexelColorInt}
use Rattle.texel.specs.Inner.{to_bytes, pixel, Low}
use Rattle.texel.specs.Texel.{scale_color, scale_alpha, blended, blend}
use Rattle.texel.proofs.Blend as texel
use Rattle.lanes.specs.Lanes.{lanes, channel_lanes, bytes, clear, multiples, top, grown, fitted, bias, joined, mixed_lanes, texel_lanes, Mask}

-- a mask acts on each lane apart
pub step : (x rest low m v : ℕ) → x < 65536 → low < 65536 → bit_and x low ≡ v → bit_and (x + 65536 * rest) (low + 65536 * m) ≡ v + 65536 * bit_and rest m
step x rest low m v h hl k =
    let p : x + 65536 * rest ≡ rest * 65536 + x = omega arith in
    let q : low + 65536 * m ≡ m * 65536 + low = omega arith in
    let e : bit_and rest m * 65536 + bit_and x low ≡ v + 65536 * bit_and rest m = omega arith in
    ap₂ bit_and p q ∙ and_block 16 rest m x low h hl ∙ e

masked : (b r g a mb mr mg ma vb vr vg va : ℕ) → b < 65536 → r < 65536 → g < 65536 → mb < 65536 → mr < 65536 → mg < 65536
    → bit_and b mb ≡ vb → bit_and r mr ≡ vr → bit_and g mg ≡ vg → bit_and a ma ≡ va → bit_and (lanes b r g a) (lanes mb mr mg ma) ≡ lanes vb vr vg va
masked b r g a mb mr mg ma vb vr vg va hb hr hg lb lr lg eb er eg ea =
    step b (r + 65536 * (g + 65536 * a)) mb (mr + 65536 * (mg + 65536 * ma)) vb hb lb eb
    ∙ ap (λ (x : ℕ). vb + 65536 * x)
    (step r (g + 65536 * a) mr (mg + 65536 * ma) vr hr lr er
    ∙ ap (λ (x : ℕ). vr + 65536 * x) (step g a mg ma vg hg lg eg ∙ ap (λ (x : ℕ). vg + 65536 * x) ea))

and_bytes : (b r g a : ℕ) → b < 65536 → r < 65536 → g < 65536 → bit_and (lanes b r g a) bytes ≡ lanes (b % 256) (r % 256) (g % 256) (a % 256)
and_bytes b r g a hb hr hg =
    masked b r g a 255 255 255 255 _ _ _ _ hb hr hg (omega arith) (omega arith) (omega arith)
    (and_mask b 8) (and_mask r 8) (and_mask g 8) (and_mask a 8)

and_kept : (p : Bool) (b r g a : ℕ) → b < 65536 → r < 65536 → g < 65536
    → bit_and (lanes b r g a) (cond p clear bytes) ≡ lanes (b % 256) (r % 256) (g % 256) (cond p 0 (a % 256))
and_kept true b r g a hb hr hg =
    masked b r g a 255 255 255 0 _ _ _ _ hb hr hg (omega arith) (omega arith) (omega arith)
    (and_mask b 8) (and_mask r 8) (and_mask g 8) (and_zero_r a)
and_kept false b r g a hb hr hg = and_bytes b r g a hb hr hg

and-top : (b r g a : ℕ) → b < 65536 → r < 65536 → g < 65536 → a < 65536 → bit_and (lanes b r g a) top ≡ lanes 0 0 0 a
and-top b r g a hb hr hg ha =
    masked b r g a 0 0 0 65535 _ _ _ _ hb hr hg (omega arith) (omega arith) (omega arith)
    (and_zero_r b) (and_zero_r r) (and_zero_r g) (and_mask a 16 ∙ omega arith)

-- each lane without its remainder
multiple : (two : Bool) (x : ℕ) → x < 65536 → bit_and x (65536 - half two) ≡ x / half two * half two
multiple true x h = and_high x 14 2 ∙ (let k : x / 4 % 16384 ≡ x / 4 = omega arith in ap (λ (y : ℕ). y * 4) k)
multiple false x h = and_high x 15 1 ∙ (let k : x / 2 % 32768 ≡ x / 2 = omega arith in ap (λ (y : ℕ). y * 2) k)

mask-small : (two : Bool) → 65536 - half two < 65536
mask-small true = omega arith
mask-small false = omega arith

and-multiples : (two : Bool) (b r g a : ℕ) → b < 65536 → r < 65536 → g < 65536 → a < 65536 → let h = half two in
    bit_and (lanes b r g a) (multiples h) ≡ lanes (b / h * h) (r / h * h) (g / h * h) (a / h * h)
and-multiples two b r g a hb hr hg ha =
    masked b r g a _ _ _ _ _ _ _ _ hb hr hg (mask-small two) (mask-small two) (mask-small two)
    (multiple two b hb) (multiple two r hr) (multiple two g hg) (multiple two a ha)

same : {b r g a b' r' g' a' : ℕ} → b ≡ b' → r ≡ r' → g ≡ g' → a ≡ a' → lanes b r g a ≡ lanes b' r' g' a'
same p q r s = cc

-- 33 times each lane, and alpha's once more
grown-lanes : (b r g a : ℕ) → b < 65536 → r < 65536 → g < 65536 → a < 65536 → grown (lanes b r g a) ≡ lanes (33 * b) (33 * r) (33 * g) (34 * a)
grown-lanes b r g a hb hr hg ha =
    ap (λ (x : ℕ). 33 * lanes b r g a + x) (and-top b r g a hb hr hg ha) ∙ sum b r g a
  where
    sum : (b r g a : ℕ) → 33 * lanes b r g a + lanes 0 0 0 a ≡ lanes (33 * b) (33 * r) (33 * g) (34 * a)
    sum b r g a = omega arith

-- a lane divided by p, which goes q times into a lane: what crosses from the lane above lies above the byte
module _ (p q : ℕ) (pos : 0 < p) (e : q * p ≡ 65536) where
  times : (x rest : ℕ) → x + 65536 * rest ≡ x + q * rest * p
  times x rest = omega (arith, ap (λ (n : ℕ). n * rest) e)

  cut : (x rest : ℕ) → (x + 65536 * rest) / p ≡ (x / p + q * (rest % p)) + 65536 * (rest / p)
  cut x rest =
      let r = ap (λ (n : ℕ). q * n) (div-add-mod' rest p) in
      let t = ap (λ (n : ℕ). n * (rest / p)) e in
      ap (λ (n : ℕ). n / p) (times x rest) ∙ add-mul-div_right x (q * rest) pos ∙ omega arith

  low : (x rest : ℕ) → (x + 65536 * rest) % p ≡ x % p
  low x rest = ap (λ (n : ℕ). n % p) (times x rest) ∙ add-mul-mod_self_right x (q * rest) p

  divided : (b r g a : ℕ) → lanes b r g a / p ≡ lanes (b / p + q * (r % p)) (r / p + q * (g % p)) (g / p + q * (a % p)) (a / p)
  divided b r g a = rw (cut b (r + 65536 * (g + 65536 * a)), low r (g + 65536 * a), cut r (g + 65536 * a), low g a, cut g a)

  -- a quotient of 8 bits is what the mask keeps
  module _ (s : ℕ) (es : q ≡ 256 * s) (some : 0 < s) where
    kept : (x y : ℕ) → x / p < 256 → (x / p + q * (y % p)) % 256 ≡ x / p
    kept x y h = omega (arith, ap (λ (n : ℕ). n * (y % p)) es)

    within-lane : (x y : ℕ) → x / p < 256 → x / p + q * (y % p) < 65536
    within-lane x y h =
        let less = mod-lt y pos in
        let below : y % p + 1 ≤ p = omega arith in
        omega (arith, mul-le-mul_left q below)

    fit-lanes : (b r g a : ℕ) → b / p < 256 → r / p < 256 → g / p < 256 → a / p < 256
        → bit_and (lanes b r g a / p) bytes ≡ lanes (b / p) (r / p) (g / p) (a / p)
    fit-lanes b r g a hb hr hg ha =
        ap (λ (x : ℕ). bit_and x bytes) (divided b r g a)
        ∙ and_bytes (b / p + q * (r % p)) (r / p + q * (g % p)) (g / p + q * (a % p)) (a / p) (within-lane b r hb) (within-lane r g hr) (within-lane g a hg)
        ∙ same (kept b r hb) (kept r g hr) (kept g a hg) (omega arith)

-- sums as lanes, alpha's doubled; four numbers of 8 bits as lanes, blue first
abbrev pub sum_lanes : ChannelOrder → PVRTCTexelColorInt → ℕ
sum_lanes order s = channel_lanes order s.b s.g s.r (2 * s.a)

abbrev plain : PVRTCTexelColorInt → ℕ
plain s = lanes s.b s.r s.g s.a

-- the one rule brings each lane of a sum to 8 bits, and none runs over on the way
abbrev Fit : Bool → (times x : ℕ) → ℕ → Type 0
Fit two times x y = (x < 65536) × (x / half two * half two < 65536) × (times * (x / half two * half two) / (32 * half two) ≡ y)

color-fit : (two : Bool) (x : ℕ) → x ≤ 31 * (8 * half two) → Fit two 33 x (scale_color (half two) x)
unfolding scale_color
color-fit true x h = (omega arith, omega arith, omega arith)
color-fit false x h = (omega arith, omega arith, omega arith)

alpha-fit : (two : Bool) (x : ℕ) → x ≤ 15 * (8 * half two) → Fit two 34 (2 * x) (scale_alpha (half two) x)
unfolding scale_alpha
alpha-fit true x h = (omega arith, omega arith, omega arith)
alpha-fit false x h = (omega arith, omega arith, omega arith)

-- how often 32 halves go into a lane, and into its upper byte
abbrev often : Bool → ℕ
often two = cond two 512 1024

goes : (two : Bool) → (0 < 32 * half two) × (often two * (32 * half two) ≡ 65536) × (often two ≡ 256 * cond two 2 4) × (0 < cond two 2 4)
goes true = (omega arith, refl, refl, omega arith)
goes false = (omega arith, refl, refl, omega arith)

-- so it brings every sum to 8 bits
fits : (two : Bool) (s : PVRTCTexelColorInt) → Low (8 * half two) s → fitted (half two) (sum_lanes BlueFirst s) ≡ plain (to_bytes (half two) s)
fits two s l =
    let h = half two in
    let k = texel.bytes two s l in
    let to = goes two in
    let b = color-fit two s.b l.b in
    let r = color-fit two s.r l.r in
    let g = color-fit two s.g l.g in
    let a = alpha-fit two s.a l.a in
    ap (λ (x : ℕ). bit_and (grown x / (32 * h)) bytes) (and-multiples two s.b s.r s.g (2 * s.a) b.0 r.0 g.0 a.0)
    ∙ ap (λ (x : ℕ). bit_and (x / (32 * h)) bytes) (grown-lanes _ _ _ _ b.1 r.1 g.1 a.1)
    ∙ fit-lanes (32 * h) (often two) to.0 to.1 (cond two 2 4) to.2 to.3 _ _ _ _
    (rw b.2 k.b) (rw r.2 k.r) (rw g.2 k.g) (rw a.2 k.a)
    ∙ same b.2 r.2 g.2 a.2

-- the blend by one product
times-lanes : (b r g a v : ℕ) → lanes b r g a * v ≡ lanes (b * v) (r * v) (g * v) (a * v)
times-lanes b r g a v = rw (add-mul, mul_assoc, add-mul, mul_assoc, add-mul, mul_assoc)

joined_is : (b r g a : ℕ) → b < 256 → r < 256 → g < 256 → a < 256 → joined (lanes b r g a) ≡ packed BlueFirst (record { r = r; g = g; b = b; a = a })
joined_is b r g a hb hr hg ha = omega arith

bound : (x y w : ℕ) → x < 256 → y < 256 → w ≤ 8 → x * (8 - w) + y * w < 2048
bound x y w hx hy hw =
    let p : x * (8 - w) ≤ 255 * (8 - w) = mul-le-mul_right (8 - w) (omega arith) in
    let q : y * w ≤ 255 * w = mul-le-mul_right w (omega arith) in
    omega arith

apart : (b r g a b' r' g' a' : ℕ) → b < 256 → r < 256 → g < 256 → a < 256
    → lanes b' r' g' a' + bias - lanes b r g a ≡ lanes (b' + 2048 - b) (r' + 2048 - r) (g' + 2048 - g) (a' + 2048 - a)
apart b r g a b' r' g' a' hb hr hg ha = omega arith

join8 : (b r g a b' r' g' a' : ℕ) → lanes b r g a + 8 * lanes b' r' g' a' ≡ lanes (b + 8 * b') (r + 8 * r') (g + 8 * g') (a + 8 * a')
join8 b r g a b' r' g' a' = omega arith

-- one lane of the product
abbrev lane : ℕ → ℕ → ℕ → ℕ
lane x y w = (y + 2048 - x) * w + 8 * x

lane-is : (x y w : ℕ) → x < 256 → w ≤ 8 → lane x y w ≡ (x * (8 - w) + y * w) + 2048 * w
lane-is x y w hx hw =
    let d = y + 2048 - x in
    let e : d + x ≡ y + 2048 = omega arith in
    let f : (8 - w) + w ≡ 8 = omega arith in
    let e1 = add-mul d x w in
    let e2 = ap (λ (z : ℕ). z * w) e in
    let e3 = add-mul y 2048 w in
    let e4 = mul-add x (8 - w) w in
    let e5 = ap (λ (z : ℕ). x * z) f in
    omega arith

-- what is known of it: with what crosses from the lane above, z, it lies in a lane, and its byte is the blend
record Blends (x y w : ℕ) : Type 0 where
  byte : blended x y w < 256
  within : (z : ℕ) → lane x y w / 8 + 8192 * (z % 8) < 65536
  raised : (z : ℕ) → (lane x y w / 8 + 8192 * (z % 8)) % 256 ≡ blended x y w
  alone : lane x y w / 8 % 256 ≡ blended x y w

blends : (x y w : ℕ) → x < 256 → y < 256 → w ≤ 8 → Blends x y w
unfolding blended
blends x y w hx hy hw =
    let b = bound x y w hx hy hw in
    let e = lane-is x y w hx hw in
    record { byte = texel.blend-byte x y w hw hx hy; within = λ z. omega arith; raised = λ z. omega arith; alone = omega arith }

module _ (s t : PVRTCTexelColorInt) (w : ℕ) (hs : EightBits (pixel s)) (ht : EightBits (pixel t)) (hw : w ≤ 8) where
  abbrev lb : ℕ
  lb = lane s.b t.b w

  abbrev lr : ℕ
  lr = lane s.r t.r w

  abbrev lg : ℕ
  lg = lane s.g t.g w

  abbrev la : ℕ
  la = lane s.a t.a w

  product : ((plain t + bias - plain s) * w + 8 * plain s) / 8
      ≡ lanes (lb / 8 + 8192 * (lr % 8)) (lr / 8 + 8192 * (lg % 8)) (lg / 8 + 8192 * (la % 8)) (la / 8)
  product =
      ap (λ (x : ℕ). (x * w + 8 * plain s) / 8) (apart s.b s.r s.g s.a t.b t.r t.g t.a hs.b hs.r hs.g hs.a)
      ∙ ap (λ (x : ℕ). (x + 8 * plain s) / 8) (times-lanes (t.b + 2048 - s.b) (t.r + 2048 - s.r) (t.g + 2048 - s.g) (t.a + 2048 - s.a) w)
      ∙ ap (λ (x : ℕ). x / 8) (join8 _ _ _ _ s.b s.r s.g s.a)
      ∙ divided 8 8192 (omega arith) refl lb lr lg la

  -- what is kept of it is the texel's word
  mix-is : (p : Bool) → mixed_lanes (plain s) (plain t) w (cond p clear bytes) ≡ packed BlueFirst (blend (pixel s) (pixel t) w p)
  mix-is p =
      let b = blends s.b t.b w hs.b ht.b hw in
      let r = blends s.r t.r w hs.r ht.r hw in
      let g = blends s.g t.g w hs.g ht.g hw in
      let a = blends s.a t.a w hs.a ht.a hw in
      let low : cond p 0 (blended s.a t.a w) ≤ 255 = cond-le p (omega arith) (omega arith) in
      ap (λ (x : ℕ). joined (bit_and x (cond p clear bytes))) product
      ∙ ap joined (and_kept p _ _ _ _ (b.within lr) (r.within lg) (g.within la)
      ∙ same (b.raised lr) (r.raised lg) (g.raised la) (ap (cond p 0) a.alone))
      ∙ joined_is _ _ _ _ b.byte r.byte g.byte (omega arith)

-- so a texel of two sums, blue first
blue-first : (two : Bool) (s t : PVRTCTexelColorInt) (w : ℕ) (p : Bool) → Low (8 * half two) s → Low (8 * half two) t → w ≤ 8 → let h = half two in
    texel_lanes h (sum_lanes BlueFirst s) (sum_lanes BlueFirst t) w (cond p clear bytes)
    ≡ packed BlueFirst (blend (pixel (to_bytes h s)) (pixel (to_bytes h t)) w p)
unfolding texel_lanes
blue-first two s t w p ls lt hw =
    ap₂ (λ (x y : ℕ). mixed_lanes x y w (cond p clear bytes)) (fits two s ls) (fits two t lt)
    ∙ mix-is (to_bytes (half two) s) (to_bytes (half two) t) w (texel.bytes two s ls) (texel.bytes two t lt) hw p

-- red first the same lanes are those of the sums with blue and red exchanged
abbrev turned : PVRTCTexelColorInt → PVRTCTexelColorInt
turned s = record { r = s.b; g = s.g; b = s.r; a = s.a }

low-turned : {t : ℕ} {s : PVRTCTexelColorInt} → Low t s → Low t (turned s)
low-turned l = record { r = l.b; g = l.g; b = l.r; a = l.a }

pub texel-lanes : (order : ChannelOrder) (two : Bool) (s t : PVRTCTexelColorInt) (w : ℕ) (p : Bool) → Low (8 * half two) s → Low (8 * half two) t → w ≤ 8
    → let h = half two in
    texel_lanes h (sum_lanes order s) (sum_lanes order t) w (cond p clear bytes) ≡ packed order (blend (pixel (to_bytes h s)) (pixel (to_bytes h t)) w p)
texel-lanes BlueFirst two s t w p ls lt hw = blue-first two s t w p ls lt hw
texel-lanes RedFirst two s t w p ls lt hw = blue-first two (turned s) (turned t) w p (low-turned ls) (low-turned lt) hw

-- what is kept is a word
pub one_word : (x k : ℕ) → Mask k → joined (bit_and x k) < 4294967296
one_word x k h =
    let e : bit_and x k % 4294967296 ≡ bit_and (x % 4294967296) (k % 4294967296) = and_mod x k 32 in
    let l = and_le_r (x % 4294967296) (k % 4294967296) in
    let m = and_le_r x k in
    let p = h.all in
    let q = h.low in
    omega arith
