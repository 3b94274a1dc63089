-- `samples::set_byte` meets its contract: past the end there is nothing to set. Assumes nothing.
use Rattle.std.proofs.Common.{sym, arith}
use Rattle.samples.proofs.Laws.{set_past}
use Rattle.samples.proofs.set_byte.Goals as goal

pub returns-else-i-bytes : goal.returns-else-i-bytes
returns-else-i-bytes c = let a = c.args in sym (set_past a.bytes.now a.i a.v (omega arith))
