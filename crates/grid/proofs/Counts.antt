-- Laws of the number of blocks along a side, over the size of a block. Assumes nothing.
use Rattle.std.proofs.Common.{◌≡◌, ℕ, ◌+◌, ◌-◌, ◌*◌, ◌/◌, ◌%◌, ◌<◌, ◌≤◌, Bool, true, false, sym, ⊎_elim, mul-le-mul_right, mod-lt, div-lt_iff_lt-mul}
use Rattle.std.proofs.Common.{mul-le-mul_left, div-add-mod', div-mul-le_self, arith}
use native.Mathlib.Nat.{lt-div-mul-add}
use Rattle.grid.specs.Grid.{block_width, blocks}
use Rattle.facts.proofs.Numbers.{lt-or-le, split}

-- a block is some texels across
pub wide : (two : Bool) → 0 < block_width two
wide true = omega arith
wide false = omega arith

module _ (size side : ℕ) (pos : 0 < size) where
  -- a side that the size divides
  pub exact : side % size ≡ 0 → side / size ≡ blocks size side
  exact e = sym (split size (side + (size - 1)) (side / size) (size - 1) (omega (arith, div-add-mod' side size)) (omega arith)).0

  -- any other has one block more, which the picture clips
  pub clipped : (side % size ≡ 0 → ⊥) → side / size + 1 ≡ blocks size side
  clipped n =
      sym (split size (side + (size - 1)) (side / size + 1) (side % size - 1) (omega (arith, div-add-mod' side size)) (omega (arith, mod-lt side pos))).0

  -- the blocks cover the side, and the last of them starts within it
  pub blocks-cover : side ≤ blocks size side * size
  blocks-cover = omega (arith, lt-div-mul-add {a = side + (size - 1)} pos)

  pub blocks-tight : blocks size side * size < side + size
  blocks-tight = omega (arith, div-mul-le_self (side + (size - 1)) size)

  -- a side has no more blocks than texels
  pub blocks-le : blocks size side ≤ side
  blocks-le =
      ⊎_elim
      (λ more.
      let many : side + 1 ≤ blocks size side = omega arith in
      absurd (omega (arith, mul-le-mul_right size many, mul-le-mul_left side pos, blocks-tight)))
      (λ few. few)
      (lt-or-le side (blocks size side))

  -- a texel of the side lies in one of its blocks
  pub block-below : (x : ℕ) → x < side → x / size < blocks size side
  block-below x h = (div-lt_iff_lt-mul {k = size} {x = x} {y = blocks size side} pos).1 (omega (arith, blocks-cover))

  -- a block of the side starts within it
  pub block_start : (b : ℕ) → b < blocks size side → b * size < side
  block_start b h =
      let next : b + 1 ≤ blocks size side = omega arith in
      omega (arith, mul-le-mul_right size next, blocks-tight)
