-- Demand 3 holds of every grid that covers a picture. Assumes nothing.
use Rattle.std.proofs.Common.{ℕ, ◌*◌, ◌<◌, ◌≤◌, Bool, sym, ⊎_elim, mul-le-mul_right, arith}
use mathlib.Core.List.Memᴰ
use mathlib.Core.List.{Memᴰ}
use Rattle.facts.proofs.Lists.{in-or-not}
use Rattle.grid.specs.Grid.{block_width, blocks, Power}
use Rattle.grid.proofs.Counts.{blocks-cover}
use Rattle.pixel.specs.declared.ChannelOrder.{ChannelOrder}
use Rattle.texel.proofs.Shares.{half-low}
use Rattle.demands.specs.Damage.{spot}
use Rattle.demands.specs.Footprint.{footprint}
use Rattle.demands.specs.Local.{Covers, Local}
use Rattle.demands.proofs.Damage.{damaged-size, damaged-listed, damaged-all, damaged-once}
use Rattle.demands.proofs.Member.{footprint-some, footprint-few, footprint-rising, footprint-within, footprint-enough}
use Rattle.demands.proofs.Told.{told}

-- a grid that has the blocks of a picture, its sides divided and rounded up, covers it
pub covers : (two : Bool) (gx gy w h : ℕ) → Power gx → Power gy → blocks (block_width two) w ≤ gx → blocks 4 h ≤ gy → Covers two gx gy w h
covers two gx gy w h px py hx hy =
    record {
      power-across = px;
      power-down = py;
      across = omega (arith, blocks-cover (block_width two) w (omega (arith, half-low two)), mul-le-mul_right (block_width two) hx);
      down = omega (arith, blocks-cover 4 h (omega arith), hy);
    }

pub local : (order : ChannelOrder) (two : Bool) (gx gy w h : ℕ) → Covers two gx gy w h → Local order two gx gy w h
local order two gx gy w h c =
    let px : Power gx = c.power-across in
    let py : Power gy = c.power-down in
    let within : (x y z : ℕ) → Memᴰ z (footprint two gx gy x y) → z < gx * gy = λ x y. footprint-within two gx gy x y px py in
    let listed = damaged-listed two gx gy px py in
    record {
      some = footprint-some two gx gy;
      few = footprint-few two gx gy;
      rising = footprint-rising two gx gy;
      within = within;
      enough = λ x y. footprint-enough two gx gy x y order;
      needed = told order two gx gy;
      size = damaged-size two gx gy;
      only = λ z d d' same x y lx ly differ.
          ⊎_elim
          (λ m. listed x y z (omega arith) (omega arith) m)
          (λ n. absurd (differ (footprint-enough two gx gy x y order d d' (λ b m. same b (within x y b m) (λ e. n (Memᴰ.cast (sym e) m))))))
          (in-or-not z (footprint two gx gy x y));
      listed = λ x y z lx ly m. listed x y z (omega arith) (omega arith) m;
      drawn = λ x y z lz m. (damaged-all two gx gy px py z lz (spot x y) m).2;
      once = λ whole. damaged-once two gx gy px py whole.two-across whole.two_down;
      all = λ whole z lz p m.
          let a = damaged-all two gx gy px py z lz p m in
          (omega arith, omega arith, a.2);
    }
