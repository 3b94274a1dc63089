-- Laws of a grid whose words stand in a run of bytes. Assumes nothing.
use Rattle.std.proofs.Common.{◌≡◌, ℕ, ◌+◌, ◌*◌, ◌<◌, ◌≤◌, min, ap, ◌∙◌, arith}
use Rattle.grid.specs.declared.Grid.{Grid}
use Rattle.grid.specs.Grid.{log2, address, block_address, beside, Placed}
use Rattle.grid.specs.Words.{word_bytes, Stands, InGrid}
use Rattle.grid.proofs.Address.{placed}
use Rattle.grid.proofs.Onto.{bijective}
use Rattle.grid.proofs.Powers.{power-above}
use Rattle.grid.proofs.Torus.{beside-below}

module _ {g : Grid} {len : ℕ} (s : Stands g len) where
  -- there are some blocks
  pub some-across : 0 < g.across
  some-across = power-above g.across s.power-across

  pub some-down : 0 < g.down
  some-down = power-above g.down s.power-down

  -- no bytes past the words are needed
  pub exact : Stands g (word_bytes g)
  exact =
      record {
        power-across = s.power-across;
        power-down = s.power-down;
        small-across = s.small-across;
        small-down = s.small-down;
        enough = omega arith;
      }

  -- a block's neighbour is a block of the grid
  pub beside-in : (bx by i j : ℕ) → InGrid g (beside g.across bx i) (beside g.down by j)
  beside-in bx by i j =
      record { across = beside-below g.across bx i some-across; down = beside-below g.down by j some-down }

  module _ {bx by : ℕ} (b : InGrid g bx by) where
    -- a block meets what the functions that compute its address ask
    pub placed-in : {m : ℕ} → m ≡ min g.across g.down → Placed m bx by
    placed-in e =
        rw e (placed g.across g.down bx by s.power-across s.power-down s.small-across s.small-down b.across b.down)

    -- its address is one of the grid's
    pub in-grid : block_address g.across g.down bx by < g.across * g.down
    in-grid = (bijective g.across g.down s.power-across s.power-down).within bx by b.across b.down

    -- and its word lies in the run
    pub located : {m z : ℕ} → m ≡ min g.across g.down → z ≡ address (log2 m) bx by
        → (z ≡ block_address g.across g.down bx by) × (8 * z + 8 ≤ len)
    located em ez =
        let e = ez ∙ ap (λ (n : ℕ). address (log2 n) bx by) em in
        (e, omega (arith, in-grid, s.enough))
