-- `word::weights::get_texel_weights_2bpp` meets its contract. The loop's invariant: the first i weights are stored. Assumes nothing.
use Rattle.facts.proofs.Tab.{Filled}
use Rattle.word.specs.Word.{weight2bpp}
use Rattle.word.proofs.weights.get_texel_weights_2bpp.Given as goal

abbrev pub invariant-loop-i : goal.invariant-loop-i
invariant-loop-i l = Filled (weight2bpp l.one l.m) l.initial.w-items l.i l.w-items
