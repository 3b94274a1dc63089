-- `texel::words::needed_words` meets its contract. The loop keeps that the first k words are read, as far as they are needed. Assumes nothing.
use Rattle.std.proofs.Common.{◌*◌, ◌/◌, ◌%◌, get_or}
use Rattle.facts.proofs.Tab.{Filled}
use Rattle.texel.specs.Needed.{word_about, word_if}
use Rattle.texel.proofs.words.needed_words.Given as goal

abbrev pub invariant-loop-k : goal.invariant-loop-k
invariant-loop-k l =
    Filled (λ k'. word_if (get_or l.across.of (k' % 3) 0 * get_or l.down.of (k' / 3) 0) (word_about l.w.grid l.w.bytes.now l.bx l.by k'))
    l.initial.word-items l.k l.word-items
