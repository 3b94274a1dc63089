-- `draw::draw_bytes` meets its contract. The loop keeps that the first i bytes are drawn, in half as many steps. Assumes nothing.
use Rattle.std.proofs.Common.{◌≡◌, ℕ, ◌+◌, ◌/◌, refl, ap, ◌∙◌, arith}
use Rattle.facts.proofs.Tab.{filled_none, filled_more}
use Rattle.samples.specs.Draw.{state_after, byte_of}
use Rattle.samples.proofs.Drawing.{step-to-byte, drawn-end}
use Rattle.samples.proofs.draw.draw_bytes.Goals as goal

pub loop-i-init : goal.loop-i-init
unfolding state_after
loop-i-init c = record { reached = refl; drawn = filled_none _ _ }

pub loop-i-preserved : goal.loop-i-preserved
loop-i-preserved c =
    let l = c.loop-i in
    let k = c.args in
    let at : c.step_before-reached.result ≡ state_after k.state (l.i / 2 + 1) =
    c.step_before-reached.ensures ∙ step-to-byte k.state l.i l.invariant.reached in
    let drawn = c.byte_of.ensures ∙ ap (λ (s : ℕ). byte_of s l.i) at in
    record { reached = at ∙ ap (state_after k.state) (omega arith); drawn = filled_more l.invariant.drawn drawn (omega arith) }

pub returns : goal.returns
returns c = drawn-end c.loop-i.invariant.drawn (omega arith) c.loop-i.invariant.reached (omega arith)
