-- Laws of the address. Assumes nothing.
use Rattle.std.proofs.Common.{◌≡◌, ℕ, zero, suc, ◌+◌, ◌*◌, ◌/◌, ◌%◌, ◌^◌, ◌<◌, ◌≤◌, min, sym, ap, ◌∙◌, mul-le-mul_right, mul-le-mul, arith, pow_pos}
use native.Mathlib.Nat.{pow-succ', div-add-mod}
use Rattle.grid.specs.Grid.{log2, Power, address, Placed}
use Rattle.grid.proofs.Powers.{log2-pow, half-power, min-power}

-- a bound that needs to know nothing of the sides
address-le : (k x y : ℕ) → address k x y ≤ 2 ^ k * (x + y)
unfolding address
address-le zero x y = omega arith
address-le (suc k) x y =
    rw (pow-succ' 2 k)
    (omega (
      arith,
      address-le k (x / 2) (y / 2),
      mul-le-mul_right (x % 2) (pow_pos k),
      mul-le-mul_right (y % 2) (pow_pos k),
      ap (λ (n : ℕ). 2 ^ k * n) (div-add-mod x 2),
      ap (λ (n : ℕ). 2 ^ k * n) (div-add-mod y 2),
    ))

pub address-small : (m x y : ℕ) → Placed m x y → address (log2 m) x y < 2 ^ 33
address-small m x y p =
    let side : 2 ^ log2 m ≤ 65536 = omega (arith, p.power, p.small) in
    let sum : x + y ≤ 131070 = omega (arith, p.small-x, p.small-y) in
    omega (arith, address-le (log2 m) x y, mul-le-mul side sum)

-- a place of a grid meets what the address asks
pub placed : (gx gy x y : ℕ) → Power gx → Power gy → gx ≤ 65536 → gy ≤ 65536 → x < gx → y < gy → Placed (min gx gy) x y
placed gx gy x y px py lx ly hx hy =
    record {
      power = min-power gx gy px py;
      small = omega arith;
      small-x = omega arith;
      small-y = omega arith;
      one-above = omega arith;
    }

-- what the two arms of `morton_index` compute
pub at-side-one : (m x y : ℕ) → m ≡ 1 → x + y ≡ address (log2 m) x y
unfolding address
at-side-one m x y e = sym (ap (λ (n : ℕ). address (log2 n) x y) e ∙ ap (λ (k : ℕ). address k x y) (log2-pow 0))

module _ (m x y : ℕ) (p : Placed m x y) (above : m ≡ 1 → ⊥) where
  pub at-half-size : 4 * address (log2 (m / 2)) (x / 2) (y / 2) + (2 * (x % 2) + y % 2) ≡ address (log2 m) x y
  unfolding address
  at-half-size = omega (arith, ap (λ (k : ℕ). address k x y) (half-power m p.power above).1)

  -- the half-size position is placed in the grid of half the side
  pub placed-half : Placed (m / 2) (x / 2) (y / 2)
  placed-half =
      let even : m ≡ 2 * 2 ^ log2 (m / 2) = p.power ∙ rw (half-power m p.power above).1 (omega arith) in
      record {
        power = (half-power m p.power above).0;
        small = omega (arith, p.small);
        small-x = omega (arith, p.small-x);
        small-y = omega (arith, p.small-y);
        one-above = omega (arith, p.one-above);
      }
