-- `lanes::places::next_column` meets its contract, at the end of a row too. Assumes nothing.
use Rattle.std.proofs.Common.{sym, arith}
use Rattle.grid.proofs.Torus.{next-inside, next-round}
use Rattle.lanes.proofs.places.next_column.Goals as goal

pub returns-then-x-across : goal.returns-then-x-across
returns-then-x-across c = let a = c.args in sym (next-inside a.across a.x (omega arith))

pub returns-else-x-across : goal.returns-else-x-across
returns-else-x-across c = let a = c.args in sym (next-round a.across a.x (omega (arith, c.requires)))
