-- `fill` of `lanes::Codes` meets its contract: at 4bpp nothing is filled. Assumes nothing.
use Rattle.lanes.proofs.Texel4bpp.{is_said}
use Rattle.lanes.proofs.coding.CodesModulation.fill.Goals as goal

pub returns : goal.returns
returns c of el eo er m = rw eo (is_said of)
