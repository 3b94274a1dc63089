-- Tests that the checker computes: at every number below a bound, and at every entry of a list.
-- Assumes nothing: these are definitions.
use Rattle.std.specs.Prelude.{Bool, true, ◌&&◌, List, [], ◌∷◌, ℕ, zero, suc}

-- The test f passes at each number below n.
abbrev pub all_below : (ℕ → Bool) → ℕ → Bool
all_below f zero = true
all_below f (suc n) = f n && all_below f n

-- The test f passes at each entry of a list and its place, counted from i.
module _ {A : Type 0} where
  abbrev pub every : (ℕ → A → Bool) → ℕ → List A → Bool
  every f i [] = true
  every f i (a ∷ l) = f i a && every f (suc i) l
