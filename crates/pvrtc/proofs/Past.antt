-- Data past the need has no effect. Assumes nothing.
use Rattle.std.proofs.Common.{◌≡◌, ℕ, ◌+◌, ◌*◌, ◌/◌, ◌<◌, ◌≤◌, Bool, false, List, ◌++◌, length, get_or, drop, sym, ap, ◌∙◌, arith, length-append, get_or-drop}
use Rattle.std.proofs.Common.{le-ltb}
use lib.ListN.{get_or-append}
use Rattle.grid.specs.declared.Grid.{Grid}
use Rattle.grid.specs.Grid.{half, block_width}
use Rattle.grid.specs.Words.{Stands}
use Rattle.grid.proofs.Words.{beside-in, in-grid}
use Rattle.pixel.specs.Pixel.{packed}
use Rattle.pixel.specs.declared.ChannelOrder.{ChannelOrder}
use Rattle.texel.specs.Texel.{words_of, grid_texel}
use Rattle.texel.proofs.Same.{look-same}
use Rattle.texel.proofs.Shares.{half-low}
use Rattle.word.proofs.Same.{word_same}
use Rattle.pvrtc.specs.declared.Call.{Call}
use Rattle.pvrtc.specs.declared.Picture.{Picture}
use Rattle.pvrtc.specs.Calls.{refusal}
use Rattle.pvrtc.specs.Picture.{picture_texel}
use Rattle.pvrtc.specs.Refusals.{need, short_data}
use Rattle.pvrtc.proofs.Accepted.{accepted, stands}

-- a word of the grid's blocks is the same where more bytes follow
word-past : (two : Bool) (d e : List ℕ) (n z : ℕ) → 8 * n ≤ length d → z < n
    → ((k : ℕ) → k < 8 → get_or (drop (8 * z) (d ++ e)) k 0 ≡ get_or (drop (8 * z) d) k 0)
word-past two d e n z l h k m =
    get_or-drop (8 * z) (d ++ e) k 0 ∙ get_or-append d e 0 (8 * z + k) (omega arith) ∙ sym (get_or-drop (8 * z) d k 0)

-- so each texel is
pub texel-past : (order : ChannelOrder) {g : Grid} (d e : List ℕ) → Stands g (length d) → (x y : ℕ) → grid_texel order g (d ++ e) x y ≡ grid_texel order g d x y
texel-past order {g} d e s x y =
    let two : Bool = g.is2bpp in
    ap (packed order)
    (look-same (half two) g.across g.down x y (half-low two) (words_of two g.across g.down (d ++ e)) (words_of two g.across g.down d)
    (λ i j a b.
    let block = beside-in s (x / block_width two) (y / 4) i j in
    word_same two _ _ (word-past two d e (g.across * g.down) _ s.enough (in-grid s block))))

module _ (p : Picture) (d e : List ℕ) (enough : need p ≤ length d) where
  -- what a call says is the same
  pub refusal-past : (c : Call) → refusal p c (d ++ e) ≡ refusal p c d
  refusal-past c =
      let more : short_data p (length (d ++ e)) ≡ false = le-ltb (length (d ++ e)) (need p) (omega (arith, length-append d e)) in
      let same : short_data p (length d) ≡ false = le-ltb (length d) (need p) enough in
      rw (more, same)

  -- and what it reads, where it is accepted
  pub picture-past : (c : Call) → refusal p c d ≡ 0 → (x y : ℕ) → picture_texel p (d ++ e) x y ≡ picture_texel p d x y
  picture-past c ok =
      texel-past p.order d e (stands (accepted p c (length d) ok))
