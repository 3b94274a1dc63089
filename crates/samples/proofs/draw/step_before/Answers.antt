-- `draw::step_before` meets its contract, by whether a step is made. Assumes nothing.
use Rattle.std.proofs.Common.{sym, ◌∙◌, eq-eqb, ne_eqb}
use Rattle.samples.proofs.draw.step_before.Goals as goal

pub returns-then-i-eq0 : goal.returns-then-i-eq0
returns-then-i-eq0 c = c.step.ensures ∙ sym (simp (eq-eqb _ _ c.if-i-eq0.true))

pub returns-else-i-eq0 : goal.returns-else-i-eq0
returns-else-i-eq0 c = simp (ne_eqb _ _ c.if-i-eq0.false)
