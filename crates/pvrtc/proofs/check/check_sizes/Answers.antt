-- `pvrtc::check::check_sizes` meets its contract: one check, and then another. Assumes nothing.
use Rattle.std.proofs.Common.{refl}
use Rattle.facts.proofs.Said.{at_exit}
use Rattle.pvrtc.proofs.Groups.{stops, goes_on, one-asked}
use Rattle.pvrtc.proofs.check.check_sizes.Goals as goal

pub returns-in_err-refuse_if : goal.returns-in_err-refuse_if
returns-in_err-refuse_if c = rw (at_exit c.from_residual.ensures) (stops _ _ tt (one-asked 1 c.in_err-refuse_if.ensures c.has_zero_side.ensures) refl)

pub returns : goal.returns
returns c =
    goes_on _ _ tt (one-asked 1 c.in_ok-refuse_if.ensures c.has_zero_side.ensures) refl (one-asked 2 c.refuse_if-2.ensures c.has_large_side.ensures)
