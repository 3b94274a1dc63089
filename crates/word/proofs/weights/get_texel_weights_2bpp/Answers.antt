-- `word::weights::get_texel_weights_2bpp` meets its contract. The loop's invariant: the first i weights are stored. Assumes nothing.
use Rattle.std.proofs.Common.{arith}
use Rattle.facts.proofs.Tab.{filled_none, filled_more}
use Rattle.word.proofs.weights.get_texel_weights_2bpp.Goals as goal

pub loop-i-init : goal.loop-i-init
loop-i-init c = filled_none _ _

pub loop-i-preserved : goal.loop-i-preserved
loop-i-preserved c = filled_more c.loop-i.invariant c.weight_2bpp.ensures (omega arith)
