-- `draw::draw_words` meets its contract. The loop keeps that the words so far are drawn, in twice as many steps. Assumes nothing.
use Rattle.std.proofs.Common.{◌≡◌, ◌*◌}
use Rattle.facts.proofs.Tab.{Filled}
use Rattle.samples.specs.Draw.{state_after, drawn_word}
use Rattle.samples.proofs.draw.draw_words.Given as goal

abbrev pub invariant-loop-word : goal.invariant-loop-word
invariant-loop-word l =
    record {
      reached : l.reached ≡ state_after l.state (2 * l.word-index);
      drawn : Filled (drawn_word l.state) l.initial.words l.word-index l.words;
    }
