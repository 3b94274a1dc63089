-- `lanes::colors::downwards` meets its contract: its rows are the three words by their shares. Assumes nothing.
use Rattle.lanes.proofs.Reading.{rows_are}
use Rattle.lanes.proofs.colors.downwards.Goals as goal

pub returns : goal.returns
returns c = let a = c.args in rows_are a.above a.own a.below
