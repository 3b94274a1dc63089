-- `grid::table::spread_byte` meets its contract: an entry of the table. Assumes nothing.
use Rattle.grid.proofs.Spreading.{entry, table-is}
use Rattle.grid.proofs.table.spread_byte.Goals as goal

pub returns : goal.returns
returns c = entry _ c.args.b table-is c.requires
