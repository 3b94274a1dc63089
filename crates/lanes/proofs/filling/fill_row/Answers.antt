-- `lanes::filling::fill_row` meets its contract: it computes the definition. Assumes nothing.
use Rattle.std.proofs.Common.{refl}
use Rattle.lanes.specs.Block2bpp.{filled_row}
use Rattle.lanes.proofs.filling.fill_row.Goals as goal

pub returns : goal.returns
unfolding filled_row
returns c = refl
