-- `lanes::colors::in_lanes` meets its contract: the one product lays blue and red in their lanes. Assumes nothing.
use Rattle.lanes.proofs.Fields.{in-lanes}
use Rattle.lanes.proofs.colors.in_lanes.Goals as goal

pub returns : goal.returns
returns c = in-lanes c.args.order c.args.fields c.args.alpha c.requires.0 c.spread_of.ensures
