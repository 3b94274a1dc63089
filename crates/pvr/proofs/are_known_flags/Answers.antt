-- `pvr::are_known_flags` meets its contract. Assumes nothing.
use Rattle.std.proofs.Common.{eq-eqb, ne_eqb}
use Rattle.pvr.proofs.are_known_flags.Goals as goal

pub returns-then-flags-eq0 : goal.returns-then-flags-eq0
returns-then-flags-eq0 c = simp (eq-eqb _ _ c.if-flags-eq0.true)

pub returns-else-flags-eq0 : goal.returns-else-flags-eq0
returns-else-flags-eq0 c = simp (ne_eqb _ _ c.if-flags-eq0.false)
