-- `ktx::reader::check_fields` meets its contract: the fields are asked in their order. Assumes nothing.
use Rattle.std.proofs.Common.{arith}
use Rattle.facts.specs.Checks.{first_of}
use Rattle.facts.proofs.Said.{at_exit}
use Rattle.ktx.specs.Numbers.{number-above}
use Rattle.ktx.proofs.reader.check_fields.Goals as goal

pub returns-in_err-refuse_if : goal.returns-in_err-refuse_if
unfolding first_of
returns-in_err-refuse_if c =
    rw (at_exit c.from_residual.ensures) (grind (arith, number-above c.in_err-refuse_if.field-0.0))

pub returns-in_err-refuse_if-2 : goal.returns-in_err-refuse_if-2
unfolding first_of
returns-in_err-refuse_if-2 c =
    rw (at_exit c.from_residual-in_err-refuse_if-2.ensures) (grind (arith, number-above c.in_err-refuse_if-2.field-0.0))

pub returns-in_err-refuse_if-3 : goal.returns-in_err-refuse_if-3
unfolding first_of
returns-in_err-refuse_if-3 c =
    rw (at_exit c.from_residual-in_err-refuse_if-3.ensures) (grind (arith, number-above c.in_err-refuse_if-3.field-0.0))

pub returns-in_err-refuse_if-4 : goal.returns-in_err-refuse_if-4
unfolding first_of
returns-in_err-refuse_if-4 c =
    rw (at_exit c.from_residual-in_err-refuse_if-4.ensures) (grind (arith, number-above c.in_err-refuse_if-4.field-0.0))

pub returns : goal.returns
unfolding first_of
returns c = grind arith
