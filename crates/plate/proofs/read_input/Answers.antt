-- `plate::read_input` meets its contract: one read more is taken behind those before. Assumes nothing.
use Rattle.std.proofs.Common.{arith}
use Rattle.plate.proofs.Takes.{takes_more}
use Rattle.plate.proofs.read_input.Goals as goal

pub loop-count-preserved : goal.loop-count-preserved
loop-count-preserved g c =
    let bound = rw c.in-Some.is at c.in_ok-n.ensures.bound in
    let took = rw c.in-Some.is at c.in_ok-n.ensures.took in
    record {
      within = omega (arith, bound);
      same_length = omega arith;
      took = takes_more _ _ _ _ _ _ _ c.loop-count.invariant.took c.read_at.ensures.front took;
    }
