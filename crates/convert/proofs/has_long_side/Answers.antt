-- `convert::has_long_side` meets its contract. Assumes nothing.
use Rattle.std.proofs.Common.{le-ltb, lt-ltb}
use Rattle.convert.proofs.has_long_side.Goals as goal

pub returns-then-p-gt1024 : goal.returns-then-p-gt1024
returns-then-p-gt1024 c = simp (lt-ltb _ _ c.if-p-gt1024.true)

pub returns-else-p-gt1024 : goal.returns-else-p-gt1024
returns-else-p-gt1024 c = simp (le-ltb _ _ c.if-p-gt1024.false)
