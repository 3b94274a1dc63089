-- Laws of shares. Assumes nothing.
use Rattle.std.proofs.Common.{◌≡◌, ◌∙◌, Bool, true, false, ℕ, zero, suc, ◌+◌, ◌*◌, ◌≤◌, ◌<◌, arith}
use Rattle.facts.specs.Sum.{sum}
use Rattle.grid.specs.Grid.{half}
use Rattle.texel.specs.Texel.{share, factor}

-- half a block is two texels at least, and four at most
pub half-low : (two : Bool) → 2 ≤ half two
half-low true = omega arith
half-low false = omega arith

pub half_high : (two : Bool) → half two ≤ 4
half_high true = omega arith
half_high false = omega arith

-- no share is more than all of them
pub share-le : (h p k : ℕ) → p < 2 * h → share h p k ≤ 2 * h
unfolding share
share-le h p zero l = omega arith
share-le h p (suc zero) l = omega arith
share-le h p (suc (suc k)) l = omega arith

-- and all of them are the width of the block
pub share-total : (h p : ℕ) → p < 2 * h → share h p 0 + share h p 1 + share h p 2 ≡ 2 * h
unfolding share
share-total h p l = omega arith

products : (a₀ a₁ a₂ b₀ b₁ b₂ : ℕ)
    → 0 + a₀ * b₀ + a₁ * b₀ + a₂ * b₀ + a₀ * b₁ + a₁ * b₁ + a₂ * b₁ + a₀ * b₂ + a₁ * b₂ + a₂ * b₂ ≡ (a₀ + a₁ + a₂) * (b₀ + b₁ + b₂)
products a₀ a₁ a₂ b₀ b₁ b₂ = omega arith

-- the nine products of shares at a place add up to 16 at 4bpp and to 32 at 2bpp
pub factor-total : (h px py : ℕ) → px < 2 * h → py < 4 → sum (factor h px py) 9 ≡ 8 * h
unfolding sum
factor-total h px py hx hy =
    products (share h px 0) (share h px 1) (share h px 2) (share 2 py 0) (share 2 py 1) (share 2 py 2)
    ∙ rw (share-total h px hx, share-total 2 py hy) (omega arith)
