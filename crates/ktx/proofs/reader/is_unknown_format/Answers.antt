-- `ktx::reader::is_unknown_format` meets its contract. Assumes nothing.
use Rattle.std.proofs.Common.{arith}
use Rattle.ktx.specs.Header.{unknown_format}
use Rattle.ktx.proofs.reader.is_unknown_format.Goals as goal

pub returns-then-u32_at-ne0-2 : goal.returns-then-u32_at-ne0-2
unfolding unknown_format
returns-then-u32_at-ne0-2 c = grind arith

pub returns-else-u32_at-ne0-2 : goal.returns-else-u32_at-ne0-2
unfolding unknown_format
returns-else-u32_at-ne0-2 c = grind arith
