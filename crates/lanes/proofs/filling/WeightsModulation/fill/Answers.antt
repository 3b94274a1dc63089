-- `fill` of `lanes::Weights` meets its contract: the rows are filled by the rule of the three words of the middle column. Assumes nothing.
use Rattle.lanes.proofs.Texel2bpp.{is_said}
use Rattle.lanes.proofs.filling.WeightsModulation.fill.Goals as goal

pub returns : goal.returns
returns c of el eo er m =
    rw (c.fill_rows.ensures, c.read_rule.ensures.0, el, eo, er, ← m.above, ← m.own, ← m.below) (is_said of)
