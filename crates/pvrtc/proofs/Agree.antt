-- The three calls agree: a word of a row, and of a picture, is what the texel call answers there. Assumes nothing.
use Rattle.std.proofs.Common.{◌≡◌, ℕ, ◌+◌, ◌*◌, ◌/◌, ◌%◌, ◌<◌, ◌≤◌, List, length, get_or, Ok, Result, sym, ap, ◌∙◌, mul-le-mul_right, mod-lt}
use Rattle.std.proofs.Common.{div-lt_iff_lt-mul, div-add-mod', arith}
use Rattle.paint.specs.Paint.{painted}
use Rattle.paint.proofs.Painted.{painted-in}
use Rattle.pvrtc.specs.declared.Call.TheVariants as call
use Rattle.pvrtc.specs.declared.Picture.{Picture}
use Rattle.pvrtc.specs.declared.Refusal.{Refusal}
use Rattle.pvrtc.specs.Calls.{refusal, TexelRead, RowDecoded, BlockDecoded}
use Rattle.pvrtc.specs.Picture.{picture_texel}
use Rattle.pvrtc.specs.Refusals.{texel_value}
use Rattle.pvrtc.proofs.Accepted.{accepted, width_above, texel-of-row, texel-of-block, row-roomy, block-roomy}

-- the word at k of a list
abbrev word : List ℕ → ℕ → ℕ
word l k = get_or l k 0

-- what an accepted texel call answers
value-is : (p : Picture) (d : List ℕ) (x y : ℕ) {r : Result ℕ Refusal} → refusal p (call.Texel x y) d ≡ 0 → TexelRead p d x y r
    → texel_value r ≡ picture_texel p d x y
value-is p d x y e t = t.value ∙ rw e

module _ (p : Picture) (d : List ℕ) (x y : ℕ) (hx : x < p.width) {old new : List ℕ} where
  -- word x of a row is the picture's texel
  pub row_is : RowDecoded p d y old new (Ok tt) → get_or new x 0 ≡ picture_texel p d x y
  row_is r =
      let ok = accepted p (call.Row y (length old)) (length d) (sym r.number) in
      let at : x ≡ 0 + (0 * p.width + x) = omega arith in
      let f : ℕ → ℕ → ℕ = λ x _. picture_texel p d x y in
      let all : new ≡ painted 0 p.width p.width 1 f old = r.words ∙ rw (sym r.number) in
      ap (λ (l : List ℕ). word l x) all
      ∙ ap (word (painted 0 p.width p.width 1 f old)) at
      ∙ painted-in 0 p.width p.width 1 (omega arith) f old x 0 hx (omega arith) (omega (arith, row-roomy p y (length old) ok.roomy))

  -- word y × width + x of a picture is its texel
  pub block-is : y < p.height → BlockDecoded p d old new (Ok tt) → get_or new (y * p.width + x) 0 ≡ picture_texel p d x y
  block-is hy r =
      let ok = accepted p (call.Block (length old)) (length d) (sym r.number) in
      let at : y * p.width + x ≡ 0 + (y * p.width + x) = omega arith in
      let below : y + 1 ≤ p.height = omega arith in
      let all : new ≡ painted 0 p.width p.width p.height (picture_texel p d) old = r.words ∙ rw (sym r.number) in
      ap (λ (l : List ℕ). word l (y * p.width + x)) all
      ∙ ap (word (painted 0 p.width p.width p.height (picture_texel p d) old)) at
      ∙ painted-in 0 p.width p.width p.height (omega arith) (picture_texel p d) old x y hx hy
      (omega (arith, mul-le-mul_right p.width below, block-roomy p (length old) ok.roomy))

  pub row-agrees : {r : Result ℕ Refusal} → RowDecoded p d y old new (Ok tt) → TexelRead p d x y r → get_or new x 0 ≡ texel_value r
  row-agrees w t =
      row_is w ∙ sym (value-is p d x y (texel-of-row p x y (length old) (length d) (accepted p (call.Row y (length old)) (length d) (sym w.number)) hx) t)

  pub block-agrees : {r : Result ℕ Refusal} → y < p.height → BlockDecoded p d old new (Ok tt) → TexelRead p d x y r
      → get_or new (y * p.width + x) 0 ≡ texel_value r
  block-agrees hy w t =
      block-is hy w ∙ sym (value-is p d x y
      (texel-of-block p x y (length old) (length d) (accepted p (call.Block (length old)) (length d) (sym w.number)) hx hy) t)

-- word k of a decoded picture is its texel in column k % width and row k / width
pub word-is : (p : Picture) (d : List ℕ) {old new : List ℕ} → BlockDecoded p d old new (Ok tt) → (k : ℕ) → k < p.width * p.height
    → get_or new k 0 ≡ picture_texel p d (k % p.width) (k / p.width)
word-is p d {old} {new} b k l =
    let w : ℕ = p.width in
    let wide : 0 < w = width_above p (accepted p (call.Block (length old)) (length d) (sym b.number)).sides in
    let row : k / w < p.height = (div-lt_iff_lt-mul {k = w} {x = k} {y = p.height} wide).1 (omega arith) in
    ap (λ (i : ℕ). get_or new i 0) (sym (div-add-mod' k w)) ∙ block-is p d (k % w) (k / w) (mod-lt k wide) row b

-- and a row is the picture's row
pub row-of-block : (p : Picture) (d : List ℕ) (x y : ℕ) {row row' image image' : List ℕ} → x < p.width → y < p.height
    → RowDecoded p d y row row' (Ok tt) → BlockDecoded p d image image' (Ok tt) → get_or row' x 0 ≡ get_or image' (y * p.width + x) 0
row-of-block p d x y hx hy r b = row_is p d x y hx r ∙ sym (block-is p d x y hx hy b)
