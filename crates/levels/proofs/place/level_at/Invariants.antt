-- `levels::place::level_at` meets its contract: after i steps it is at level i. The measure is how many are left. Assumes nothing.
use Rattle.std.proofs.Common.{◌≡◌, ◌-◌, ◌≤◌}
use Rattle.levels.specs.Levels.{level_at}
use Rattle.levels.proofs.place.level_at.Given as goal

abbrev pub invariant-loop : goal.invariant-loop
invariant-loop l = (l.level ≡ level_at l.l l.counter) × (l.counter ≤ l.k)

abbrev pub decreases-loop : goal.decreases-loop
decreases-loop l = l.k - l.counter
