-- `levels::check::check_levels` meets its contract: the sides, then the number of levels. Assumes nothing.
use Rattle.std.proofs.Common.{sym, arith}
use Rattle.facts.proofs.Checks.{none_said, said-first, said-later}
use Rattle.facts.proofs.Said.{at_exit}
use Rattle.files.proofs.Answers.{past, stopped}
use Rattle.pvrtc.specs.Refusals.{size_checks}
use Rattle.levels.specs.Levels.{plate_in}
use Rattle.levels.specs.Numbers.{number-above}
use Rattle.levels.proofs.check.check_levels.Goals as goal

pub returns-in_err-check_sides : goal.returns-in_err-check_sides
returns-in_err-check_sides c =
    rw (at_exit c.from_residual.ensures) (said-first (size_checks (plate_in c.args.l)) _ tt c.in_err-check_sides.ensures (number-above _))

pub has_too_many-requires : goal.has_too_many-requires
has_too_many-requires c = none_said (size_checks (plate_in c.args.l)) tt (sym c.in_ok-check_sides.ensures) 2

pub returns-in_err-refuse_if : goal.returns-in_err-refuse_if
returns-in_err-refuse_if c =
    rw (at_exit c.from_residual-in_err-refuse_if.ensures)
    (said-later (size_checks (plate_in c.args.l)) _ tt c.in_ok-check_sides.ensures
    (stopped _ _ c.has_too_many.ensures (number-above _) c.in_err-refuse_if.ensures))

pub returns : goal.returns
returns c =
    said-later (size_checks (plate_in c.args.l)) _ tt c.in_ok-check_sides.ensures
    (past _ _ c.has_too_many.ensures (omega arith) c.in_ok-refuse_if.ensures c.refuse_if-2.ensures)
