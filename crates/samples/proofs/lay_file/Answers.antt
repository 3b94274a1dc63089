-- `samples::lay_file` meets its contract. The loop keeps that the first k bytes are laid. Assumes nothing.
use Rattle.std.proofs.Common.{refl, arith}
use Rattle.facts.proofs.Tab.{filled_none, filled_more, filled-end}
use Rattle.samples.proofs.lay_file.Goals as goal

pub loop-k-init : goal.loop-k-init
loop-k-init c = filled_none _ _

pub loop-k-preserved : goal.loop-k-preserved
loop-k-preserved c = filled_more c.loop-k.invariant c.file_byte.ensures (omega arith)

pub returns : goal.returns
returns c = filled-end _ c.loop-k.invariant (omega arith) refl
