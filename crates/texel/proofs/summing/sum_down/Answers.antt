-- `texel::summing::sum_down` meets its contract, column by column: three words of a column have small colours. Assumes nothing.
use Rattle.std.proofs.Common.{true, false, arith}
use Rattle.texel.specs.Summed.{column_of}
use Rattle.texel.proofs.summing.sum_down.Goals as goal

pub column-requires : goal.column-requires
column-requires c = let s = c.requires false in (s 0 (omega arith), s 3 (omega arith), s 6 (omega arith))

pub column-requires-2 : goal.column-requires-2
column-requires-2 c = let s = c.requires false in (s 1 (omega arith), s 4 (omega arith), s 7 (omega arith))

pub column-requires-3 : goal.column-requires-3
column-requires-3 c = let s = c.requires false in (s 2 (omega arith), s 5 (omega arith), s 8 (omega arith))

pub column-requires-4 : goal.column-requires-4
column-requires-4 c = let s = c.requires true in (s 0 (omega arith), s 3 (omega arith), s 6 (omega arith))

pub column-requires-5 : goal.column-requires-5
column-requires-5 c = let s = c.requires true in (s 1 (omega arith), s 4 (omega arith), s 7 (omega arith))

pub column-requires-6 : goal.column-requires-6
column-requires-6 c = let s = c.requires true in (s 2 (omega arith), s 5 (omega arith), s 8 (omega arith))

pub returns : goal.returns
unfolding column_of
returns c = rw (c.column.ensures, c.column-2.ensures, c.column-3.ensures, c.column-4.ensures, c.column-5.ensures, c.column-6.ensures)
