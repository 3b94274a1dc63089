-- Laws of scaling and of the blend. Assumes nothing.
use Rattle.std.proofs.Common.{◌≡◌, sym, subst, ap, Bool, true, false, cond, ⊎_elim, ℕ, ◌+◌, ◌-◌, ◌*◌, ◌/◌, ◌^◌, ◌∙◌, ◌≤◌, ◌<◌, min, max, mul-le-mul_right}
use Rattle.std.proofs.Common.{mul-add, arith}
use Rattle.std.specs.Int.{from_bool}
use Rattle.facts.proofs.Numbers.{lt-or-le}
use Rattle.grid.specs.Grid.{half}
use Rattle.pixel.specs.Pixel.{EightBits}
use Rattle.texel.specs.declared.PVRTCTexelColorInt.{PVRTCTexelColorInt}
use Rattle.texel.specs.Texel.{scale_color, scale_alpha, blended, blend}
use Rattle.texel.specs.Inner.{to_bytes, pixel, Low}

-- eight parts in all, of a and of b
parts : (a w : ℕ) → w ≤ 8 → a * (8 - w) + a * w ≡ 8 * a
parts a w l =
    let e : (8 - w) + w ≡ 8 = omega arith in
    omega (arith, mul-add a (8 - w) w, ap (λ (n : ℕ). a * n) e)

-- a blend lies between its ends
pub between : (a b w : ℕ) → w ≤ 8 → (min a b ≤ blended a b w) × (blended a b w ≤ max a b)
unfolding blended
between a b w l =
    ⊎_elim
    (λ less.
    let le : a ≤ b = omega arith in
    (omega (arith, mul-le-mul_right w le, parts a w l), omega (arith, mul-le-mul_right (8 - w) le, parts b w l)))
    (λ more. (omega (arith, mul-le-mul_right (8 - w) more, parts b w l), omega (arith, mul-le-mul_right w more, parts a w l)))
    (lt-or-le a b)

pub blend-byte : (a b w : ℕ) → w ≤ 8 → a < 256 → b < 256 → blended a b w < 256
blend-byte a b w l ha hb = omega (arith, between a b w l)

-- document 01's four formulas, by how far the sums are shifted
formulas : (two : Bool) (s : PVRTCTexelColorInt) {k : ℕ} {r g b a : ℕ} → k ≡ from_bool two
    → r ≡ s.r / 2 ^ (k + 1) + s.r / 2 ^ (k + 1 + 5) → g ≡ s.g / 2 ^ (k + 1) + s.g / 2 ^ (k + 1 + 5)
    → b ≡ s.b / 2 ^ (k + 1) + s.b / 2 ^ (k + 1 + 5) → a ≡ s.a / 2 ^ k + s.a / 2 ^ (k + 4)
    → record { r = r; g = g; b = b; a = a } ≡ to_bytes (half two) s
unfolding scale_color scale_alpha
formulas true s {a = a} ek er eg eb ea =
    let alpha : a ≡ 2 * s.a / 4 + s.a / 32 = ea ∙ rw ek (omega arith) in rw (er, eg, eb, alpha, ek)
formulas false s {a = a} ek er eg eb ea =
    let alpha : a ≡ 2 * s.a / 2 + s.a / 16 = ea ∙ rw ek (omega arith) in rw (er, eg, eb, alpha, ek)

-- sums that are small enough come to 8 bits
pub bytes : (two : Bool) (s : PVRTCTexelColorInt) → Low (8 * half two) s → EightBits (pixel (to_bytes (half two) s))
unfolding scale_color scale_alpha
bytes true s l = record { r = omega (arith, l.r); g = omega (arith, l.g); b = omega (arith, l.b); a = omega (arith, l.a) }
bytes false s l = record { r = omega (arith, l.r); g = omega (arith, l.g); b = omega (arith, l.b); a = omega (arith, l.a) }

pub scaled-by : (two : Bool) (s : PVRTCTexelColorInt) {k : ℕ} {r g b a : ℕ} → Low (8 * half two) s → k ≡ from_bool two
    → r ≡ s.r / 2 ^ (k + 1) + s.r / 2 ^ (k + 1 + 5) → g ≡ s.g / 2 ^ (k + 1) + s.g / 2 ^ (k + 1 + 5)
    → b ≡ s.b / 2 ^ (k + 1) + s.b / 2 ^ (k + 1 + 5) → a ≡ s.a / 2 ^ k + s.a / 2 ^ (k + 4)
    → let t : PVRTCTexelColorInt = record { r = r; g = g; b = b; a = a } in (t ≡ to_bytes (half two) s) × EightBits (pixel t)
scaled-by two s l ek er eg eb ea =
    let e = formulas two s ek er eg eb ea in
    (e, subst (λ (t : PVRTCTexelColorInt). EightBits (pixel t)) (sym e) (bytes two s l))

-- two pixels of 8 bits, blended, have 8 bits
pub blend-bytes : (s t : PVRTCTexelColorInt) (w : ℕ) (punched : Bool) → w ≤ 8 → EightBits (pixel s) → EightBits (pixel t)
    → EightBits (blend (pixel s) (pixel t) w punched)
blend-bytes s t w punched l hs ht =
    record {
      r = blend-byte s.r t.r w l hs.r ht.r;
      g = blend-byte s.g t.g w l hs.g ht.g;
      b = blend-byte s.b t.b w l hs.b ht.b;
      a = alpha punched;
    }
  where
    alpha : (p : Bool) → cond p 0 (blended s.a t.a w) < 256
    alpha true = omega arith
    alpha false = blend-byte s.a t.a w l hs.a ht.a
