-- `word::weights::get_texel_weights_4bpp` meets its contract. The loop's invariant: the first i weights are stored, and the first i bits of the
-- flag. Assumes nothing.
use Rattle.facts.proofs.Bits.{Flagged}
use Rattle.facts.proofs.Tab.{Filled}
use Rattle.word.specs.Word.{weight4bpp, punch4bpp}
use Rattle.word.proofs.weights.get_texel_weights_4bpp.Given as goal

abbrev pub invariant-loop-i : goal.invariant-loop-i
invariant-loop-i l = Filled (weight4bpp l.one l.m) l.initial.w-items l.i l.w-items × Flagged (punch4bpp l.one l.m) l.i l.punch_through_flag
