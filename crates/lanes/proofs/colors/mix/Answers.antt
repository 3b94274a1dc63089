-- `lanes::colors::mix` meets its contract: what is kept stays within 32 bits. Assumes nothing.
use Rattle.std.proofs.Common.{◌+◌, ◌-◌, ◌*◌, ◌/◌, arith}
use Rattle.lanes.specs.Lanes.{bias}
use Rattle.lanes.proofs.Lane.{one_word}
use Rattle.lanes.proofs.colors.mix.Goals as goal

pub overflow_cast-result : goal.overflow_cast-result
overflow_cast-result c = let a = c.args in omega (arith, one_word (((a.b + bias - a.a) * a.w + 8 * a.a) / 8) a.keep c.requires.3)
