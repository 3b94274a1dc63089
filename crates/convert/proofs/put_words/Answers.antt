-- `convert::put_words` meets its contract. The loop keeps that the first i bytes are written. Assumes nothing.
use Rattle.std.proofs.Common.{arith}
use Rattle.facts.proofs.Tab.{filled_none, filled_more, filled-end}
use Rattle.convert.proofs.put_words.Goals as goal

pub loop-i-init : goal.loop-i-init
loop-i-init c = filled_none _ _

pub loop-i-preserved : goal.loop-i-preserved
loop-i-preserved c = filled_more c.loop-i.invariant c.byte_of.ensures (omega arith)

pub returns : goal.returns
returns c = filled-end _ c.loop-i.invariant (omega arith) c.requires
