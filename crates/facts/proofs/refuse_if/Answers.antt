-- `facts::refuse_if` meets its contract. Assumes nothing.
use Rattle.std.proofs.Common.{refl}
use Rattle.facts.specs.Checks.{first_of}
use Rattle.facts.proofs.refuse_if.Goals as goal

pub returns-then-holds : goal.returns-then-holds
unfolding first_of
returns-then-holds g c = rw c.if-holds.true refl

pub returns-else-holds : goal.returns-else-holds
unfolding first_of
returns-else-holds g c = rw c.if-holds.false refl
