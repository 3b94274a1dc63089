-- `levels::reader::read_level` meets its contract. Assumes nothing.
use Rattle.facts.proofs.Said.{at_exit}
use Rattle.levels.proofs.Whole.{by-header, by-own}
use Rattle.levels.proofs.reader.read_level.Goals as goal

pub returns-in_err-levels : goal.returns-in_err-levels
returns-in_err-levels c = rw (at_exit c.from_residual.ensures) (by-header c.args.file.now c.args.k c.in_err-levels.ensures)

pub returns : goal.returns
returns c = by-own c.args.file.now c.args.k c.in_ok-levels.ensures c.describe.ensures
