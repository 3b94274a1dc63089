-- What is known of a picture that a call accepts. Assumes nothing.
use Rattle.std.proofs.Common.{◌≡◌, ℕ, ◌*◌, ◌/◌, ◌<◌, ◌≤◌, false, not, eqb, ltb, leb, refl, lt_of_lt_of_le, arith, ltb-false, leb-false}
use borrow.Author.Tests.{eqb-false, lt-leb, not-false}
use Rattle.facts.specs.Checks.{first_of, condition}
use Rattle.facts.proofs.Checks.{none_said}
use Rattle.facts.proofs.Or.{or_left, or_right}
use Rattle.grid.specs.declared.Grid.{Grid}
use Rattle.grid.specs.Grid.{block_width, Power, is_power}
use Rattle.grid.specs.Words.{Stands, InGrid}
use Rattle.grid.proofs.Counts.{wide, blocks-le, block-below}
use Rattle.grid.proofs.Powers.{is-power}
use Rattle.pvrtc.specs.declared.Call.{Call}
use Rattle.pvrtc.specs.declared.Call.TheVariants as call
use Rattle.pvrtc.specs.declared.Picture.{Picture}
use Rattle.pvrtc.specs.Picture.{across, down, grid_of}
use Rattle.pvrtc.proofs.Modes.{side-covers, side-small}
use Rattle.pvrtc.specs.Refusals.{need, zero_side, large_side, short_data, short_image, not_power, outside, checks}

-- no condition of a refusal holds
pub record Accepted (p : Picture) (c : Call) (len : ℕ) : Type 0 where
  pub sides : zero_side p ≡ false
  pub small : large_side p ≡ false
  pub enough : short_data p len ≡ false
  pub roomy : short_image p c ≡ false
  pub powers : not_power p ≡ false
  pub inside : outside p c ≡ false

-- each by its number
pub accepted : (p : Picture) (c : Call) (len : ℕ) → first_of (checks p c len) ≡ 0 → Accepted p c len
accepted p c len e =
    let none : (n : ℕ) → condition (checks p c len) n ≡ false = none_said (checks p c len) tt e in
    record { sides = none 1; small = none 2; enough = none 3; roomy = none 4; powers = none 5; inside = none 6 }

-- a call none of whose refusals holds says none
pub passed : (p : Picture) (c : Call) (len : ℕ) → Accepted p c len → first_of (checks p c len) ≡ 0
unfolding first_of
passed p c len a = simp (a.sides, a.small, a.enough, a.roomy, a.powers, a.inside)

module _ (p : Picture) where
  module _ (e : large_side p ≡ false) where
    pub width_small : p.width ≤ 65536
    width_small = ltb-false 65536 p.width (or_left _ (ltb 65536 p.height) e)

    pub height-small : p.height ≤ 65536
    height-small = ltb-false 65536 p.height (or_right (ltb 65536 p.width) _ e)

  module _ (e : zero_side p ≡ false) where
    pub width_above : 0 < p.width
    width_above =
        let n : p.width ≡ 0 → ⊥ = eqb-false p.width 0 (or_left _ (eqb p.height 0) e) in
        omega arith

    pub height-above : 0 < p.height
    height-above =
        let n : p.height ≡ 0 → ⊥ = eqb-false p.height 0 (or_right (eqb p.width 0) _ e) in
        omega arith

-- no side has more blocks than its texels, or than two
pub few-across : (p : Picture) → large_side p ≡ false → (grid_of p).across ≤ 65536
few-across p e =
    side-small p.mode (across p) 65536 (omega arith)
    (omega (arith, blocks-le (block_width p.is2bpp) p.width (wide p.is2bpp), width_small p e))

pub few-down : (p : Picture) → large_side p ≡ false → (grid_of p).down ≤ 65536
few-down p e = side-small p.mode (down p) 65536 (omega arith) (omega (arith, blocks-le 4 p.height (omega arith), height-small p e))

-- the grid has the blocks that cover the picture
pub covers-across : (p : Picture) → across p ≤ (grid_of p).across
covers-across p = side-covers p.mode (across p)

pub covers_down : (p : Picture) → down p ≤ (grid_of p).down
covers_down p = side-covers p.mode (down p)

-- both sides of the grid are powers of two
pub power-across : (p : Picture) → not_power p ≡ false → Power (grid_of p).across
power-across p e = is-power (grid_of p).across (not-false _ (or_left _ (not (is_power (grid_of p).down)) e))

pub power-down : (p : Picture) → not_power p ≡ false → Power (grid_of p).down
power-down p e = is-power (grid_of p).down (not-false _ (or_right (not (is_power (grid_of p).across)) _ e))

module _ {p : Picture} {c : Call} {len : ℕ} (a : Accepted p c len) where
  -- its grid has powers of two as its sides, and its words stand in the data
  pub stands : Stands (grid_of p) len
  stands =
      record {
        power-across = power-across p a.powers;
        power-down = power-down p a.powers;
        small-across = few-across p a.small;
        small-down = few-down p a.small;
        enough = ltb-false len (need p) a.enough;
      }

  -- a texel of the picture lies in a block of the grid
  pub block_in : (x y : ℕ) → x < p.width → y < p.height → InGrid (grid_of p) (x / block_width p.is2bpp) (y / 4)
  block_in x y hx hy =
      record {
        across = lt_of_lt_of_le (block-below (block_width p.is2bpp) p.width (wide p.is2bpp) x hx) (covers-across p);
        down = lt_of_lt_of_le (block-below 4 p.height (omega arith) y hy) (covers_down p);
      }

  -- the same of its grid by another name
  pub stands-as : {g : Grid} → g ≡ grid_of p → Stands g len
  stands-as e = rw e stands

  pub block-as : {g : Grid} → g ≡ grid_of p → (x y : ℕ) → x < p.width → y < p.height → InGrid g (x / block_width g.is2bpp) (y / 4)
  block-as e x y hx hy = rw e (block_in x y hx hy)

-- where the texel call is accepted, the texel lies in the picture
pub texel-inside : (p : Picture) (x y : ℕ) → outside p (call.Texel x y) ≡ false → (x < p.width) × (y < p.height)
unfolding outside
texel-inside p x y e = (leb-false p.width x (or_left _ (leb p.height y) e), leb-false p.height y (or_right (leb p.width x) _ e))

-- where the row call is accepted, the row lies in the picture and the lent words hold it
pub row_inside : (p : Picture) (y room : ℕ) → outside p (call.Row y room) ≡ false → y < p.height
unfolding outside
row_inside p y room e = leb-false p.height y e

pub row-roomy : (p : Picture) (y room : ℕ) → short_image p (call.Row y room) ≡ false → p.width ≤ room
unfolding short_image
row-roomy p y room e = ltb-false room p.width e

-- where the block call is, the lent words hold the picture
pub block-roomy : (p : Picture) (room : ℕ) → short_image p (call.Block room) ≡ false → p.width * p.height ≤ room
unfolding short_image
block-roomy p room e = ltb-false room (p.width * p.height) e

-- a texel of the picture is accepted where its sizes are and the data is long enough
pub inside-accepted : (p : Picture) (x y len : ℕ) → zero_side p ≡ false → large_side p ≡ false → short_data p len ≡ false → not_power p ≡ false
    → x < p.width → y < p.height → first_of (checks p (call.Texel x y) len) ≡ 0
unfolding short_image outside
inside-accepted p x y len sides small enough powers hx hy =
    passed p (call.Texel x y) len
    (record {
      sides = sides;
      small = small;
      enough = enough;
      roomy = refl;
      powers = powers;
      inside = simp (lt-leb p.width x hx, lt-leb p.height y hy);
    })

-- so each texel of an accepted row is, and each of an accepted picture
pub texel-of-row : (p : Picture) (x y room len : ℕ) → Accepted p (call.Row y room) len → x < p.width → first_of (checks p (call.Texel x y) len) ≡ 0
texel-of-row p x y room len a hx =
    inside-accepted p x y len a.sides a.small a.enough a.powers hx (row_inside p y room a.inside)

pub texel-of-block : (p : Picture) (x y room len : ℕ) → Accepted p (call.Block room) len → x < p.width → y < p.height
    → first_of (checks p (call.Texel x y) len) ≡ 0
texel-of-block p x y room len a hx hy = inside-accepted p x y len a.sides a.small a.enough a.powers hx hy
