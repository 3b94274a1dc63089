-- `lanes::places::spread` meets its contract, byte by byte. Assumes nothing.
use Rattle.std.proofs.Common.{◌/◌, ◌%◌, arith}
use Rattle.grid.proofs.Spreading.{spread-lt, spread-add, spread-mod}
use Rattle.lanes.proofs.places.spread.Goals as goal

pub overflow_mul-result : goal.overflow_mul-result
overflow_mul-result c = omega (arith, c.spread_byte-2.ensures, spread-lt 8 (c.args.v / 256))

pub overflow_add-result : goal.overflow_add-result
overflow_add-result c =
    let v = c.args.v in
    omega (arith, c.spread_byte.ensures, c.spread_byte-2.ensures, spread-lt 8 (v % 256), spread-lt 8 (v / 256))

pub returns : goal.returns
returns c =
    let v = c.args.v in
    omega (arith, c.spread_byte.ensures, c.spread_byte-2.ensures, spread-add 8 8 v, spread-mod 8 v)
