-- `texel::words::nine_words` meets its contract. The loop keeps that the first k words are read. Assumes nothing.
use Rattle.facts.proofs.Tab.{Filled}
use Rattle.texel.specs.Needed.{word_about}
use Rattle.texel.proofs.words.nine_words.Given as goal

abbrev pub invariant-loop-k : goal.invariant-loop-k
invariant-loop-k l = Filled (word_about l.w.grid l.w.bytes.now l.bx l.by) l.initial.word-items l.k l.word-items
