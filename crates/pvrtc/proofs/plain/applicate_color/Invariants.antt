-- `pvrtc::plain::applicate_color` meets its contract. The loop keeps that the first i texels are in the buffer. Assumes nothing.
use Rattle.facts.proofs.Tab.{Filled}
use Rattle.pvrtc.specs.Inner.{block_texel}
use Rattle.pvrtc.proofs.plain.applicate_color.Given as goal

abbrev pub invariant-loop-i : goal.invariant-loop-i
invariant-loop-i l = Filled (block_texel l.order l.is2bpp l.nine) l.initial.texel-items l.i l.texel-items
