-- Demand 2: whatever call gives it, a texel is Khronos's. Assumes nothing.
use Rattle.std.proofs.Common.{◌≡◌, ℕ, ◌*◌, ◌<◌, sym, ◌∙◌, ap₂, arith}
use Rattle.grid.specs.Grid.{blocks}
use Rattle.khronos.specs.Agrees.{word32}
use Rattle.khronos.specs.Khronos.{half_block}
use Rattle.khronos.specs.Storage.{khronos_picture}
use Rattle.khronos.proofs.IsKhronos.{is-khronos}
use Rattle.khronos.proofs.Modulation.{positive}
use Rattle.khronos.proofs.Storage.{same-storage}
use Rattle.pvrtc.specs.declared.GridMode.{GridMode}
use Rattle.pvrtc.specs.declared.GridMode.TheVariants.{Rust, Stored}
use Rattle.pvrtc.specs.Picture.{side_in, grid_of}
use Rattle.pvrtc.proofs.Accepted.{block_in, power-across, power-down, few-across, few-down}
use Rattle.demands.specs.Right.{khronos_side, Right}
use Rattle.demands.proofs.Seen.{seen}

-- the blocks that Khronos has along a side, and the extension, are those of the mode's grid
same-side : (m : GridMode) (size side : ℕ) → 0 < size → khronos_side m size side ≡ side_in m (blocks size side)
unfolding side_in
same-side Rust size side pos = same-storage.count size side pos
same-side Stored size side pos = same-storage.stored size side pos

pub right : Right
right p d bytes x y v g =
    let s = seen p d x y v g in
    let powers = s.ok.powers in
    let small = s.ok.small in
    let inside = block_in s.ok x y s.across s.down in
    let across = same-side p.mode (2 * half_block p.is2bpp) p.width (omega (arith, positive p.is2bpp)) in
    let down = same-side p.mode 4 p.height (omega arith) in
    s.is
    ∙ is-khronos p.order p.is2bpp (grid_of p).across (grid_of p).down d bytes
    (power-across p powers) (power-down p powers) (few-across p small) (few-down p small) x y inside.across inside.down
    ∙ ap₂ (λ (gx gy : ℕ). word32 p.order (khronos_picture p.is2bpp gx gy d x y)) (sym across) (sym down)
