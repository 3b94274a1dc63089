-- What the program's limits say, and what is known of a plate that keeps them. Assumes nothing.
use Rattle.std.proofs.Common.{◌≡◌, ℕ, ◌*◌, ◌≤◌, Bool, true, false, cond, eqb, ltb, sym, ap, ◌∙◌, mul-le-mul, mul-le-mul_left, arith, ltb-false, le-ltb}
use Rattle.facts.specs.Checks.{first_of, condition}
use Rattle.facts.proofs.Checks.{none_said, first-append}
use Rattle.facts.proofs.Or.{or_left, or_right}
use Rattle.grid.specs.Grid.{block_width}
use Rattle.grid.proofs.Counts.{wide, blocks-cover}
use Rattle.pvrtc.specs.declared.Call.TheVariants as call
use Rattle.pvrtc.specs.declared.Picture.{Picture}
use Rattle.pvrtc.proofs.Accepted.{covers-across, covers_down}
use Rattle.pvrtc.specs.Picture.{across, down, grid_of}
use Rattle.pvrtc.specs.Refusals.{need, zero_side, large_side, short_image, outside, checks}
use Rattle.convert.specs.Inner.{TgaFits}
use Rattle.files.specs.declared.Stored.{Stored}
use Rattle.convert.specs.Output.{picture_of, need_limit, long_skipped, long_side, large_need, other_size, limit_checks, payload_checks, own_checks, Room}

-- a number that is not above 0 is 0
pub says_none : {n m : ℕ} → n ≡ m → n ≤ 0 → m ≡ 0
says_none e h = omega arith

-- nothing is refused before the data
pub record Kept (s : Stored) : Type 0 where
  pub skipped : long_skipped s ≡ false
  pub whole : s.cut ≡ false
  pub sides : zero_side (picture_of s) ≡ false
  pub small : long_side (picture_of s) ≡ false
  pub needed : large_need (picture_of s) ≡ false
  pub sized : other_size s ≡ false

module _ (s : Stored) where
  -- each by its number
  pub kept : first_of (limit_checks s) ≡ 0 → Kept s
  kept e =
      let none : (n : ℕ) → condition (limit_checks s) n ≡ false = none_said (limit_checks s) tt e in
      record { skipped = none 21; whole = none 37; sides = none 1; small = none 22; needed = none 23; sized = none 36 }

  -- the limits speak first, and what the data and the grid say comes after them
  pub own-number : (len : ℕ)
      → first_of (own_checks s len) ≡ cond (eqb (first_of (limit_checks s)) 0) (first_of (payload_checks (picture_of s) len)) (first_of (limit_checks s))
  own-number len = first-append (limit_checks s) (payload_checks (picture_of s) len) tt

-- equal plates with equal lengths are refused alike
pub own_same : {s t : Stored} {len len' : ℕ} → s ≡ t → len ≡ len' → first_of (own_checks s len) ≡ first_of (own_checks t len')
own_same {t = t} {len} es el = ap (λ (x : Stored). first_of (own_checks x len)) es ∙ ap (λ (k : ℕ). first_of (own_checks t k)) el

module _ (p : Picture) (e : long_side p ≡ false) where
  pub width_small : p.width ≤ 1024
  width_small = ltb-false 1024 p.width (or_left _ (ltb 1024 p.height) e)

  pub height-small : p.height ≤ 1024
  height-small = ltb-false 1024 p.height (or_right (ltb 1024 p.width) _ e)

  -- so the call does not find a side too large
  pub not-large : large_side p ≡ false
  not-large = rw (le-ltb 65536 p.width (omega (arith, width_small)), le-ltb 65536 p.height (omega (arith, height-small)))

narrow : (two : Bool) → block_width two ≤ 8
narrow true = omega arith
narrow false = omega arith

-- a picture whose need is small has few words
pub few_words : (p : Picture) → large_need p ≡ false → p.width * p.height ≤ 131072
few_words p e =
    let x : p.width ≤ across p * block_width p.is2bpp = blocks-cover (block_width p.is2bpp) p.width (wide p.is2bpp) in
    let y : p.height ≤ down p * 4 = blocks-cover 4 p.height (omega arith) in
    let held : across p * down p ≤ (grid_of p).across * (grid_of p).down = mul-le-mul (covers-across p) (covers_down p) in
    let n : need p ≤ need_limit = ltb-false need_limit (need p) e in
    omega (arith, mul-le-mul x y, mul-le-mul_left (across p * down p) (narrow p.is2bpp), held, n)

-- what the block call says of a plate that keeps the limits, into enough words: that the data is short, or that the blocks are no power of two
pub call-says : (p : Picture) (room len : ℕ) → zero_side p ≡ false → long_side p ≡ false → p.width * p.height ≤ room
    → first_of (checks p (call.Block room) len) ≡ first_of (payload_checks p len)
unfolding first_of short_image outside
call-says p room len z l fits = simp (z, not-large p l, le-ltb room (p.width * p.height) fits)

-- so past the limits it is the block call that speaks
pub past-limits : (s : Stored) (room len : ℕ) → first_of (limit_checks s) ≡ 0 → 131072 ≤ room
    → first_of (own_checks s len) ≡ first_of (checks (picture_of s) (call.Block room) len)
past-limits s room len none enough =
    let k = kept s none in
    let p = picture_of s in
    own-number s len ∙ rw none (sym (call-says p room len k.sides k.small (omega (arith, few_words p k.needed))))

-- the picture fits into enough words, and its TGA into enough bytes
pub tga-fits : (s : Stored) {image out words : ℕ} → first_of (limit_checks s) ≡ 0 → Room image out → words ≡ image
    → TgaFits s.width s.height words out
tga-fits s e r same =
    let k = kept s e in
    let few = few_words (picture_of s) k.needed in
    record {
      small-w = width_small (picture_of s) k.small;
      small-h = height-small (picture_of s) k.small;
      few = few;
      words = omega (arith, r.words);
      bytes = omega (arith, r.bytes);
    }
