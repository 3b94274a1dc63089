-- `word::weights::get_texel_weights_4bpp` meets its contract. The loop's invariant: the first i weights are stored, and the first i bits of the
-- flag. Assumes nothing.
use Rattle.std.proofs.Common.{arith}
use Rattle.facts.proofs.Bits.{flagged-none, flagged-more}
use Rattle.facts.proofs.Tab.{filled_none, filled_more}
use Rattle.word.proofs.weights.get_texel_weights_4bpp.Goals as goal

pub loop-i-init : goal.loop-i-init
loop-i-init c = (filled_none _ _, flagged-none _)

pub loop-i-preserved : goal.loop-i-preserved
loop-i-preserved c =
    let h = c.loop-i.invariant in
    (filled_more h.0 c.weight_4bpp.ensures (omega arith), flagged-more h.1 c.punch_4bpp-punch_through_flag.ensures)
