-- `lanes::Sums::first` meets its contract: at place 0 the two sides share evenly. Assumes nothing.
use Rattle.lanes.proofs.Linear.{shared-first}
use Rattle.lanes.proofs.Sums.first.Goals as goal

pub returns : goal.returns
returns c = let a = c.args in shared-first a.h a.self.left a.self.own a.self.right
