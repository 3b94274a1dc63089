-- The order of channels: no refusal hangs on it, and red first a word is the same texel's with two bytes exchanged. Assumes nothing.
use Rattle.std.proofs.Common.{◌≡◌, ℕ, ◌*◌, List, length, drop, refl, ap}
use Rattle.facts.specs.Checks.{first_of}
use Rattle.grid.specs.Grid.{half, block_address}
use Rattle.pixel.proofs.Exchanged.{exchanging}
use Rattle.pixel.specs.Pixel.{exchanged}
use Rattle.pixel.specs.declared.ChannelOrder.{ChannelOrder}
use Rattle.pixel.specs.declared.ChannelOrder.TheVariants.{BlueFirst, RedFirst}
use Rattle.texel.proofs.Range.{texel-bytes}
use Rattle.texel.specs.Texel.{texel_at, words_of}
use Rattle.pvrtc.specs.declared.Call.{Call}
use Rattle.pvrtc.specs.declared.Call.TheVariants as call
use Rattle.pvrtc.specs.declared.Picture.{Picture}
use Rattle.pvrtc.specs.Calls.{refusal}
use Rattle.pvrtc.specs.Picture.{in_order, grid_of, picture_texel}
use Rattle.pvrtc.specs.Refusals.{short_image, outside, checks}

module _ (order : ChannelOrder) (p : Picture) where
  pub room_in : (c : Call) → short_image (in_order order p) c ≡ short_image p c
  unfolding short_image
  room_in (call.Texel x y) = refl
  room_in (call.Row y room) = refl
  room_in (call.Block room) = refl

  outside-in : (c : Call) → outside (in_order order p) c ≡ outside p c
  unfolding outside
  outside-in (call.Texel x y) = refl
  outside-in (call.Row y room) = refl
  outside-in (call.Block room) = refl

  checks-in : (c : Call) (len : ℕ) → checks (in_order order p) c len ≡ checks p c len
  checks-in c len = rw (room_in c, outside-in c)

  -- a call says the same in either order
  pub refusal-in : (c : Call) (d : List ℕ) → refusal (in_order order p) c d ≡ refusal p c d
  refusal-in c d = ap first_of (checks-in c (length d))

-- each word of one order is the other's with two bytes exchanged
pub red-first : (p : Picture) (d : List ℕ) (x y : ℕ) → picture_texel (in_order RedFirst p) d x y ≡ exchanged (picture_texel (in_order BlueFirst p) d x y)
red-first p d x y =
    let g = grid_of p in
    exchanging.red-first (texel_at (half g.is2bpp) g.across g.down (words_of g.is2bpp g.across g.down d) x y)
    (texel-bytes g.is2bpp g.across g.down (λ i j. drop (8 * block_address g.across g.down i j) d) x y)
