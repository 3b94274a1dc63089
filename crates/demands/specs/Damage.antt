-- The rectangle of texels that damage in one block can change. Along either side it is said alike: g blocks of 2h texels, and the bad
-- block's column or row c among them. Across, h is half the width of a block; down, it is 2. Assumes nothing: these are definitions.
use Rattle.std.specs.Prelude.{◌≡◌, Bool, List, ℕ, ◌+◌, ◌-◌, ◌*◌, ◌/◌, ◌%◌, ◌<◌, length, get_or}
use Rattle.facts.specs.Tab.{tab}
use Rattle.grid.specs.Grid.{half, block_column, block_row}

-- The first column or row that is touched: h - 1 texels before the block, round the side.
abbrev pub first_touched : ℕ → ℕ → ℕ → ℕ
first_touched h g c = (c * (2 * h) + g * (2 * h) - (h - 1)) % (g * (2 * h))

-- How many are touched from there on: 7 or 15 across, 7 down.
abbrev pub reach : ℕ → ℕ
reach h = 4 * h - 1

-- The t-th of them, going round the side.
unfoldable pub touched : ℕ → ℕ → ℕ → ℕ → ℕ
touched h g c t = (first_touched h g c + t) % (g * (2 * h))

-- The place of a texel in a picture: its column and its row.
pub record Spot : Type 0 where
  pub x : ℕ
  pub y : ℕ

abbrev pub spot : ℕ → ℕ → Spot
spot x y = record { x = x; y = y }

-- The k-th texel of the rectangle about the block at address z, in row order.
abbrev pub spot_at : Bool → ℕ → ℕ → ℕ → ℕ → Spot
spot_at two gx gy z k =
    spot (touched (half two) gx (block_column gx gy z) (k % reach (half two))) (touched 2 gy (block_row gx gy z) (k / reach (half two)))

-- The whole rectangle.
unfoldable pub damaged : Bool → ℕ → ℕ → ℕ → List Spot
damaged two gx gy z = tab (spot_at two gx gy z) (reach (half two) * reach 2)

-- No two places of a list are the same.
abbrev pub Different : List Spot → Type 0
Different l = (i j : ℕ) → i < j → j < length l → (o : Spot) → get_or l i o ≡ get_or l j o → ⊥
