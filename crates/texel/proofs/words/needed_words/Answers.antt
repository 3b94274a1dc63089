-- `texel::words::needed_words` meets its contract. The loop keeps that the first k words are read, as far as they are needed. Assumes nothing.
use Rattle.std.proofs.Common.{refl, arith}
use Rattle.facts.proofs.Tab.{filled_none, filled_more, filled-end}
use Rattle.texel.specs.Needed.{needed_about}
use Rattle.texel.proofs.words.needed_words.Goals as goal

pub loop-k-init : goal.loop-k-init
loop-k-init c = filled_none _ _

pub loop-k-preserved : goal.loop-k-preserved
loop-k-preserved c = filled_more c.loop-k.invariant c.word_if.ensures (omega arith)

pub returns : goal.returns
unfolding needed_about
returns c = filled-end 9 c.loop-k.invariant (omega arith) refl
