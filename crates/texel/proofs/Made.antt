-- How the equations of the calls inside make the texel, over plain variables. Assumes nothing.
use Rattle.std.proofs.Common.{◌≡◌, ◌<◌, arith, Bool, true, false, List, ℕ, ◌+◌, ◌-◌, ◌*◌, ◌/◌, ◌%◌, get_or}
use Rattle.grid.specs.Grid.{half, block_width}
use Rattle.facts.specs.Bits.{is_set}
use Rattle.pixel.specs.Pixel.{packed}
use Rattle.pixel.specs.declared.ChannelOrder.{ChannelOrder}
use Rattle.word.specs.declared.Fill.{Fill}
use Rattle.word.specs.declared.Fill.TheVariants.{Nothing, Around, AboveBelow, LeftRight}
use Rattle.word.specs.declared.PVRTCTexelInfo.{PVRTCTexelInfo}
use Rattle.texel.specs.declared.PVRTCTexelColorInt.{PVRTCTexelColorInt}
use Rattle.texel.specs.declared.Window.{Window}
use Rattle.texel.specs.Texel.{Words, blended, blend, near, filled, rule_at}
use Rattle.texel.specs.Inner.{blank, nine_of, to_bytes, pixel, InNine}
use Rattle.texel.specs.Summed.{shares, across_of, texel_by}

module _ (order : ChannelOrder) (s t : PVRTCTexelColorInt) (w : ℕ) {p : Bool} {r g b x : ℕ} where
  pub punched : p ≡ true → r ≡ blended s.r t.r w → g ≡ blended s.g t.g w → b ≡ blended s.b t.b w
      → x ≡ packed order (record { r = r; g = g; b = b; a = 0 }) → x ≡ packed order (blend (pixel s) (pixel t) w p)
  punched ep er eg eb ex = cc

  pub whole : {a : ℕ} → p ≡ false → r ≡ blended s.r t.r w → g ≡ blended s.g t.g w → b ≡ blended s.b t.b w
      → a ≡ blended s.a t.a w → x ≡ packed order (record { r = r; g = g; b = b; a = a }) → x ≡ packed order (blend (pixel s) (pixel t) w p)
  whole ep er eg eb ea ex = cc

pub texel : (order : ChannelOrder) (two : Bool) (nine : Words) (window : Window) (px py : ℕ)
    {row : List ℕ} {sa sb a b : PVRTCTexelColorInt} {w x : ℕ} {p : Bool}
    → row ≡ shares (half two) px → sa ≡ across_of window.a row → a ≡ to_bytes (half two) sa → sb ≡ across_of window.b row → b ≡ to_bytes (half two) sb
    → w ≡ filled (half two) (rule_at (nine 1 1) px py) nine (px + block_width two) (py + 4)
    → p ≡ is_set (nine 1 1).punch_through_flag (block_width two * py + px)
    → x ≡ packed order (blend (pixel a) (pixel b) w p) → x ≡ packed order (texel_by (half two) nine window px py)
unfolding texel_by
texel order two nine window px py er ea eb ec ed ew ep ex = rw (ex, eb, ed, ea, ec, er, ew, ep)

pub weight : (two : Bool) (own : PVRTCTexelInfo) (nine : Words) (px py : ℕ) {f : Fill} {w r : ℕ} → f ≡ rule_at own px py → w ≡ block_width two
    → r ≡ filled (half two) f nine (px + w) (py + 4) → r ≡ filled (half two) (rule_at own px py) nine (px + block_width two) (py + 4)
weight two own nine px py ef ew er = rw (← ef, ← ew) er

-- an index and the weight there
pub near-is : (two : Bool) (nine : List PVRTCTexelInfo) (x y : ℕ) {bx px : ℕ} {w : ℕ} → w ≡ block_width two → bx ≡ x / block_width two
    → px ≡ x % block_width two
    → get_or (get_or nine (3 * (y / 4) + bx) blank).weight (w * (y % 4) + px) 0 ≡ near (half two) (nine_of nine) x y
unfolding near
near-is two nine x y ew eb ep = rw (ew, eb, ep)

-- which of the nine blocks, and which of its texels
pub in-nine : (two : Bool) (x y : ℕ) {bx : ℕ} → InNine two x y → bx ≡ x / block_width two → 3 * (y / 4) + bx < 9
in-nine true x y at e = omega (arith, at.across, at.down)
in-nine false x y at e = omega (arith, at.across, at.down)

pub in-block : (two : Bool) (x y : ℕ) {w px : ℕ} → w ≡ block_width two → px ≡ x % block_width two → w * (y % 4) + px < 4 * block_width two
in-block true x y ew e = rw ew (omega arith)
in-block false x y ew e = rw ew (omega arith)

module _ (h : ℕ) (nine : Words) (x y : ℕ) {f : Fill} where
  pub by-nothing : f ≡ Nothing → {o : ℕ} → o ≡ near h nine x y → o ≡ filled h f nine x y
  unfolding filled
  by-nothing e eo = cc

  pub by-around : f ≡ Around → {a b l r : ℕ} → a ≡ near h nine x (y - 1) → b ≡ near h nine x (y + 1) → l ≡ near h nine (x - 1) y → r ≡ near h nine (x + 1) y
      → (a + b + l + r + 2) / 4 ≡ filled h f nine x y
  unfolding filled
  by-around e ea eb el er = cc

  pub by-above-below : f ≡ AboveBelow → {a b : ℕ} → a ≡ near h nine x (y - 1) → b ≡ near h nine x (y + 1) → (a + b + 1) / 2 ≡ filled h f nine x y
  unfolding filled
  by-above-below e ea eb = cc

  pub by-left-right : f ≡ LeftRight → {l r : ℕ} → l ≡ near h nine (x - 1) y → r ≡ near h nine (x + 1) y → (l + r + 1) / 2 ≡ filled h f nine x y
  unfolding filled
  by-left-right e el er = cc
