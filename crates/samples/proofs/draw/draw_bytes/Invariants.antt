-- `draw::draw_bytes` meets its contract. The loop keeps that the first i bytes are drawn, in half as many steps. Assumes nothing.
use Rattle.std.proofs.Common.{◌≡◌, ◌+◌, ◌/◌}
use Rattle.facts.proofs.Tab.{Filled}
use Rattle.samples.specs.Draw.{state_after, drawn_byte}
use Rattle.samples.proofs.draw.draw_bytes.Given as goal

abbrev pub invariant-loop-i : goal.invariant-loop-i
invariant-loop-i l =
    record {
      reached : l.reached ≡ state_after l.state ((l.i + 1) / 2);
      drawn : Filled (drawn_byte l.state) l.initial.bytes l.i l.bytes;
    }
