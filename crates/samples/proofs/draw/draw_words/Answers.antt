-- `draw::draw_words` meets its contract. The loop keeps that the words so far are drawn, in twice as many steps. Assumes nothing.
use Rattle.std.proofs.Common.{◌≡◌, ◌+◌, ◌*◌, refl, ap, ◌∙◌, arith}
use Rattle.facts.proofs.Tab.{filled_none, filled_more}
use Rattle.samples.specs.Draw.{state_after}
use Rattle.samples.proofs.Drawing.{step-more, drawn-end}
use Rattle.samples.proofs.draw.draw_words.Goals as goal

pub loop-word-init : goal.loop-word-init
unfolding state_after
loop-word-init c = record { reached = refl; drawn = filled_none _ _ }

pub loop-word-preserved : goal.loop-word-preserved
loop-word-preserved c =
    let l = c.loop-word in
    let k = c.args in
    let i = l.word-index in
    let low : c.step-low.result ≡ state_after k.state (2 * i + 1) =
    c.step-low.ensures ∙ step-more k.state (2 * i) l.invariant.reached in
    let high : c.step-reached.result ≡ state_after k.state (2 * i + 2) =
    c.step-reached.ensures ∙ step-more k.state (2 * i + 1) low ∙ ap (state_after k.state) (omega arith) in
    record {
      reached = high ∙ ap (state_after k.state) (omega arith);
      drawn = filled_more l.invariant.drawn (c.word_of.ensures ∙ rw (low, high)) (omega arith);
    }

pub returns : goal.returns
returns c = drawn-end c.loop-word.invariant.drawn (omega arith) c.loop-word.invariant.reached (omega arith)
