-- `levels::kinds::read_levels` meets its contract. Assumes nothing.
use Rattle.std.proofs.Common.{sym, ◌∙◌}
use Rattle.levels.proofs.Answers.{either-pvr, either-ktx}
use Rattle.levels.proofs.kinds.read_levels.Goals as goal

pub returns-then-is_ktx : goal.returns-then-is_ktx
returns-then-is_ktx c = either-ktx c.args.file.now (sym c.is_ktx.ensures ∙ c.if-is_ktx.true) c.ktx_levels.ensures

pub returns-else-is_ktx : goal.returns-else-is_ktx
returns-else-is_ktx c = either-pvr c.args.file.now (sym c.is_ktx.ensures ∙ c.if-is_ktx.false) c.pvr_levels.ensures
