-- `grid::morton_index` meets its contract: `Address` has what its two arms compute. Assumes nothing.
use Rattle.std.proofs.Common.{ℕ, ◌^◌, ◌<◌, arith}
use Rattle.grid.proofs.Address.{address-small, at-side-one, at-half-size, placed-half}
use Rattle.grid.proofs.Powers.{power-above}
use Rattle.grid.proofs.+morton_index.Goals as goal
use Rattle.grid.proofs.+morton_index.Goals.{After-morton_index}

pub morton_index-requires : goal.morton_index-requires
morton_index-requires t c =
    (omega (arith, power-above c.args.min_dim c.requires.power, c.decreases), placed-half _ _ _ c.requires c.if-min_dim-eq1.false)

-- the half-size address leaves room for two bits more
half-small : {t : ℕ} (c : After-morton_index t) → c.morton_index.result < 2 ^ 33
half-small c = rw c.morton_index.ensures (address-small _ _ _ (placed-half _ _ _ c.requires c.if-min_dim-eq1.false))

pub returns-then-min_dim-eq1 : goal.returns-then-min_dim-eq1
returns-then-min_dim-eq1 t c = at-side-one _ _ _ c.if-min_dim-eq1.true

pub returns-else-min_dim-eq1 : goal.returns-else-min_dim-eq1
returns-else-min_dim-eq1 t c = rw c.morton_index.ensures (at-half-size _ _ _ c.requires c.if-min_dim-eq1.false)

pub overflow_mul-result : goal.overflow_mul-result
overflow_mul-result t c = omega (arith, half-small c)

pub overflow_add-result-else-min_dim-eq1 : goal.overflow_add-result-else-min_dim-eq1
overflow_add-result-else-min_dim-eq1 t c = omega (arith, half-small c)
