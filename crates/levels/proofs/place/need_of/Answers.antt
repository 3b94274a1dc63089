-- `levels::place::need_of` meets its contract. Assumes nothing.
use Rattle.std.proofs.Common.{◌≡◌, ℕ, ◌≤◌, Bool, false, ap, ◌∙◌}
use Rattle.grid.specs.Words.{word_bytes}
use Rattle.pixel.specs.declared.ChannelOrder.TheVariants.{BlueFirst}
use Rattle.pvrtc.specs.Picture.{picture, grid_of}
use Rattle.pvrtc.specs.Refusals.{large_side}
use Rattle.pvrtc.specs.declared.GridMode.TheVariants.{Stored}
use Rattle.pvrtc.proofs.Accepted.{few-across, few-down}
use Rattle.levels.proofs.Ranges.{not-large, need-small}
use Rattle.levels.proofs.place.need_of.Goals as goal

-- the sides are accepted
small : (w h : ℕ) (two : Bool) → w ≤ 65536 → h ≤ 65536 → large_side (picture w h two Stored BlueFirst) ≡ false
small w h two lw lh = not-large (picture w h two Stored BlueFirst) lw lh

pub need_of-requires : goal.need_of-requires
need_of-requires c =
    let a = c.args in
    let p = picture a.width a.height a.is2bpp Stored BlueFirst in
    let low = small a.width a.height a.is2bpp c.requires.0 c.requires.1 in
    rw (c.grid_of.ensures ∙ ap grid_of c.picture_of-p.ensures) (few-across p low, few-down p low)

pub returns : goal.returns
returns c =
    let a = c.args in
    let p = picture a.width a.height a.is2bpp Stored BlueFirst in
    let low = small a.width a.height a.is2bpp c.requires.0 c.requires.1 in
    let is = c.need_of.ensures ∙ ap word_bytes (c.grid_of.ensures ∙ ap grid_of c.picture_of-p.ensures) in
    (is, rw is (need-small p low))
