-- `lanes::Sums::step` meets its contract, in the left half and in the right half. Assumes nothing.
use Rattle.std.proofs.Common.{arith}
use Rattle.lanes.proofs.Linear.{Step, steps}
use Rattle.lanes.proofs.Sums.step.Goals as goal
use Rattle.lanes.proofs.Sums.step.Goals.{Start}

-- the step that the arguments ask for
asked : (s : Start) → let a = s.args in Step a.h a.i a.sum a.self.left a.self.own a.self.right
asked s = let a = s.args in steps a.h a.i a.self.left a.self.own a.self.right s.requires.h_bound s.requires.small

pub overflow_add-result : goal.overflow_add-result
overflow_add-result c = omega (arith, (asked (goal.at.overflow_add-result c).Start).small, c.requires.small.own)

pub overflow_sub-result : goal.overflow_sub-result
overflow_sub-result c = omega (arith, (asked (goal.at.overflow_sub-result c).Start).left c.if-i-h.true)

pub overflow_add-result-else-i-h : goal.overflow_add-result-else-i-h
overflow_add-result-else-i-h c = omega (arith, (asked (goal.at.overflow_add-result-else-i-h c).Start).small, c.requires.small.right)

pub overflow_sub-result-else-i-h : goal.overflow_sub-result-else-i-h
overflow_sub-result-else-i-h c = omega (arith, (asked (goal.at.overflow_sub-result-else-i-h c).Start).right c.if-i-h.false)

pub returns-then-i-h : goal.returns-then-i-h
returns-then-i-h c = omega (arith, (asked (goal.at.returns-then-i-h c).Start).left c.if-i-h.true)

pub returns-else-i-h : goal.returns-else-i-h
returns-else-i-h c = omega (arith, (asked (goal.at.returns-else-i-h c).Start).right c.if-i-h.false)
