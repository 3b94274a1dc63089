-- `ktx::reader::is_not_one_plate` meets its contract. Assumes nothing.
use Rattle.std.proofs.Common.{arith}
use Rattle.ktx.specs.Header.{not_one_plate}
use Rattle.ktx.proofs.reader.is_not_one_plate.Goals as goal

pub returns-then-u32_at-ne0-2 : goal.returns-then-u32_at-ne0-2
unfolding not_one_plate
returns-then-u32_at-ne0-2 c = grind arith

pub returns-else-u32_at-ne0-2 : goal.returns-else-u32_at-ne0-2
unfolding not_one_plate
returns-else-u32_at-ne0-2 c = grind arith
