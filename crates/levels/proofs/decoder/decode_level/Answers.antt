-- `levels::decoder::decode_level` meets its contract. Assumes nothing.
use Rattle.facts.proofs.Said.{at_exit}
use Rattle.levels.proofs.Whole.{not-described, as-described}
use Rattle.levels.proofs.decoder.decode_level.Goals as goal

pub returns-in_err-level : goal.returns-in_err-level
returns-in_err-level c = rw (at_exit c.from_residual.ensures) (not-described c.args.file.now c.args.k c.in_err-level.ensures)

pub returns : goal.returns
returns c = as-described c.args.file.now c.args.k c.in_ok-level.ensures c.decode_at.ensures
