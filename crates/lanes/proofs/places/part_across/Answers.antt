-- `lanes::places::part_across` meets its contract: `Placing` has that this form is the address, which bounds every part. Assumes nothing.
use Rattle.std.proofs.Common.{arith}
use Rattle.lanes.proofs.Placing.{across-is, across-small}
use Rattle.lanes.proofs.places.part_across.Goals as goal

pub overflow_mul-result-2 : goal.overflow_mul-result-2
overflow_mul-result-2 c = omega (arith, c.spread.ensures, across-small c.args.smaller c.args.x c.requires)

pub overflow_add-result : goal.overflow_add-result
overflow_add-result c = omega (arith, c.spread.ensures, across-small c.args.smaller c.args.x c.requires)

pub returns : goal.returns
returns c = omega (arith, c.spread.ensures, across-is c.args.smaller c.args.x c.requires)
