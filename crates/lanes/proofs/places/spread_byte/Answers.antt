-- `lanes::places::spread_byte` meets its contract: the masks spread each of the 256 bytes. Assumes nothing.
use Rattle.lanes.proofs.Placing.{masks-spread}
use Rattle.lanes.proofs.places.spread_byte.Goals as goal

pub returns : goal.returns
returns c = masks-spread c.args.b c.requires
