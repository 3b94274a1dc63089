-- The rectangle about a block: it holds the texels whose footprint has the block and no others, and where the grid has two blocks
-- each way, none of them twice. Assumes nothing.
use Rattle.std.proofs.Common.{◌≡◌, ℕ, ◌+◌, ◌*◌, ◌/◌, ◌%◌, ◌<◌, ◌≤◌, Bool, true, false, cond, length, sym, refl, ap, ◌∙◌, ap₂, mul-le-mul_right, mod-lt}
use Rattle.std.proofs.Common.{div-lt_iff_lt-mul, div-add-mod', arith}
use mathlib.Core.List.{Memᴰ}
use Rattle.facts.specs.Tab.{tab}
use Rattle.facts.proofs.Lists.{tab-in, tab_out}
use Rattle.facts.proofs.Numbers.{split}
use Rattle.facts.proofs.Tab.{length-tab, get_or-tab}
use Rattle.grid.specs.Grid.{half, block_width, Power, block_address, block_column, block_row, beside}
use Rattle.grid.proofs.Onto.{bijective}
use Rattle.grid.proofs.Powers.{power-above}
use Rattle.grid.proofs.Torus.{beside-below}
use Rattle.texel.proofs.Shares.{half-low}
use Rattle.demands.specs.Damage.{reach, touched, Spot, spot, spot_at, damaged, Different}
use Rattle.demands.specs.Footprint.{footprint}
use Rattle.demands.proofs.Member.{in-footprint, of-footprint}
use Rattle.demands.proofs.Side.{found, draws, once}

-- 7 by 7 texels at 4bpp, 15 by 7 at 2bpp
pub rectangle-size : (two : Bool) → reach (half two) * reach 2 ≡ cond two 105 49
rectangle-size true = refl
rectangle-size false = refl

pub damaged-size : (two : Bool) (gx gy z : ℕ) → length (damaged two gx gy z) ≡ cond two 105 49
unfolding damaged
damaged-size two gx gy z = length-tab (spot_at two gx gy z) (reach (half two) * reach 2) ∙ rectangle-size two

module _ (two : Bool) (gx gy : ℕ) (px : Power gx) (py : Power gy) where
  abbrev h : ℕ
  h = half two

  lh : 0 < h
  lh = omega (arith, half-low two)

  lx : 0 < gx
  lx = power-above gx px

  ly : 0 < gy
  ly = power-above gy py

  wide : 0 < reach h
  wide = omega (arith, half-low two)

  row_below : (k : ℕ) → k < reach h * reach 2 → k / reach h < reach 2
  row_below k l = (div-lt_iff_lt-mul {k = reach h} {x = k} {y = reach 2} wide).1 (omega arith)

  pub damaged-listed : (x y z : ℕ) → x < gx * block_width two → y < gy * 4 → Memᴰ z (footprint two gx gy x y)
      → Memᴰ (spot x y) (damaged two gx gy z)
  unfolding damaged
  damaged-listed x y z bx by m =
      let d = of-footprint two gx gy x y z m in
      let c : ℕ = beside gx (x / block_width two) d.i in
      let r : ℕ = beside gy (y / 4) d.j in
      let lc : c < gx = beside-below gx (x / block_width two) d.i lx in
      let lr : r < gy = beside-below gy (y / 4) d.j ly in
      let column : c ≡ block_column gx gy z = sym (ap (block_column gx gy) d.is ∙ (bijective gx gy px py).same-column c r lc lr) in
      let row : r ≡ block_row gx gy z = sym (ap (block_row gx gy) d.is ∙ (bijective gx gy px py).same_row c r lc lr) in
      let a = found h gx lh lx x d.i bx d.across in
      let b = found 2 gy (omega arith) ly y d.j by d.down in
      let k : ℕ = b.k * reach h + a.k in
      let cut : (k / reach h ≡ b.k) × (k % reach h ≡ a.k) = split (reach h) k b.k a.k refl a.below in
      tab-in (spot_at two gx gy z) (reach h * reach 2) k
      (omega (arith, a.below, mul-le-mul_right (reach h) b.below))
      (ap₂ spot (a.is ∙ ap₂ (touched h gx) column (sym cut.1)) (b.is ∙ ap₂ (touched 2 gy) row (sym cut.0)))

  pub damaged-all : (z : ℕ) → z < gx * gy → (p : Spot) → Memᴰ p (damaged two gx gy z)
      → (p.x < gx * block_width two) × (p.y < gy * 4) × Memᴰ z (footprint two gx gy p.x p.y)
  unfolding damaged
  damaged-all z lz p m =
      let v = tab_out (spot_at two gx gy z) (reach h * reach 2) m in
      let k : ℕ = v.k in
      let grid = bijective gx gy px py in
      let a = draws h gx lh lx (block_column gx gy z) (k % reach h) (grid.column-within z lz) (mod-lt k wide) in
      let b = draws 2 gy (omega arith) ly (block_row gx gy z) (k / reach h) (grid.row_within z lz) (row_below k v.below) in
      let s : Spot = spot_at two gx gy z k in
      let own : z ≡ block_address gx gy (beside gx (s.x / block_width two) a.i) (beside gy (s.y / 4) b.i) =
      sym (ap₂ (block_address gx gy) a.is b.is ∙ grid.same_address z lz) in
      rw v.is (
        a.below,
        b.below,
        in-footprint two gx gy s.x s.y z (record { i = a.i; j = b.i; across = a.has; down = b.has; is = own }),
      )

  pub damaged-once : 2 ≤ gx → 2 ≤ gy → (z : ℕ) → Different (damaged two gx gy z)
  unfolding damaged
  damaged-once tx ty z i j l lt o e =
      let n : ℕ = reach h * reach 2 in
      let all : length (tab (spot_at two gx gy z) n) ≡ n = length-tab (spot_at two gx gy z) n in
      let li : i < n = omega arith in
      let lj : j < n = omega arith in
      let same : spot_at two gx gy z i ≡ spot_at two gx gy z j =
      sym (get_or-tab (spot_at two gx gy z) n i o li) ∙ e ∙ get_or-tab (spot_at two gx gy z) n j o lj in
      let a : i % reach h ≡ j % reach h =
      once h gx lh lx (block_column gx gy z) (i % reach h) (j % reach h) tx (mod-lt i wide) (mod-lt j wide) (ap (λ (p : Spot). p.x) same) in
      let b : i / reach h ≡ j / reach h =
      once 2 gy (omega arith) ly (block_row gx gy z) (i / reach h) (j / reach h) ty (row_below i li) (row_below j lj) (ap (λ (p : Spot). p.y) same) in
      omega (arith, div-add-mod' i (reach h), div-add-mod' j (reach h), ap (λ (n : ℕ). n * reach h) b)
