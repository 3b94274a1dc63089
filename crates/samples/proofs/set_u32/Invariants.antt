-- `samples::set_u32` meets its contract. The loop keeps that the first k bytes of the number are put. Assumes nothing.
use Rattle.std.proofs.Common.{◌≡◌}
use Rattle.samples.proofs.Laws.{placed}
use Rattle.samples.proofs.set_u32.Given as goal

abbrev pub invariant-loop-k : goal.invariant-loop-k
invariant-loop-k l = l.bytes ≡ placed l.at l.v l.initial.bytes l.k
