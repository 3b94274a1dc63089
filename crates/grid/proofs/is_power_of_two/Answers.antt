-- `grid::is_power_of_two` meets its contract: `Powers` has that one bit of a power is set. Assumes nothing.
use Rattle.std.proofs.Common.{◌∙◌}
use Rattle.grid.proofs.Powers.{one-bit}
use Rattle.grid.proofs.is_power_of_two.Goals as goal

pub returns : goal.returns
returns c = c.is_power_of_two.ensures ∙ one-bit c.args.n
