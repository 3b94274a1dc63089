-- `levels::place::most_levels` meets its contract. Assumes nothing.
use Rattle.std.proofs.Common.{arith}
use Rattle.levels.proofs.Halving.{log2-is, log2-max}
use Rattle.levels.proofs.place.most_levels.Goals as goal

pub returns : goal.returns
returns c =
    let r = c.ilog2.result in
    let m = c.max.result in
    omega (arith, log2-is r m c.ilog2.ensures.power_le (omega (arith, c.ilog2.ensures.next_power_gt)), log2-max c.args.side m c.max.ensures)
