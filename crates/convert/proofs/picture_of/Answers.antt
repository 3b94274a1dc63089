-- `convert::picture_of` meets its contract. Assumes nothing.
use Rattle.convert.proofs.picture_of.Goals as goal

pub returns : goal.returns
returns c = c.picture_of.ensures
