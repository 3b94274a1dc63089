-- `grid::table::spread` meets its contract: the two low bytes of v, spread by the table. Assumes nothing.
use Rattle.std.proofs.Common.{◌/◌, ◌%◌, arith}
use Rattle.grid.proofs.Spreading.{spread-lt, spread-add, spread-mod}
use Rattle.grid.proofs.table.spread.Goals as goal

pub overflow_mul-result : goal.overflow_mul-result
overflow_mul-result c =
    let v = c.args.v in
    omega (arith, spread-lt 8 (v / 256 % 256))

pub overflow_add-result : goal.overflow_add-result
overflow_add-result c =
    let v = c.args.v in
    omega (arith, spread-lt 8 (v % 256), spread-lt 8 (v / 256 % 256))

pub returns : goal.returns
returns c =
    let v = c.args.v in
    omega (arith, spread-add 8 8 v, spread-mod 8 v, spread-mod 8 (v / 256))
