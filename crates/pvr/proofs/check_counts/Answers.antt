-- `pvr::check_counts` meets its contract: the counts are asked in their order. Assumes nothing.
use Rattle.std.proofs.Common.{◌≡◌, ℕ, not, eqb, ap, arith}
use Rattle.facts.proofs.Said.{at_exit}
use Rattle.files.proofs.Answers.{past, stopped}
use Rattle.pvr.specs.Numbers.{number-above}
use Rattle.pvr.proofs.check_counts.Goals as goal

not-one : {r count : ℕ} → r ≡ count → not (eqb r 1) ≡ not (eqb count 1)
not-one = ap (λ (v : ℕ). not (eqb v 1))

pub returns-in_err-refuse_if : goal.returns-in_err-refuse_if
returns-in_err-refuse_if c =
    rw (at_exit c.from_residual.ensures) (stopped _ _ (not-one c.u32_at.ensures.0) (number-above _) c.in_err-refuse_if.ensures)

pub returns-in_err-refuse_if-2 : goal.returns-in_err-refuse_if-2
returns-in_err-refuse_if-2 c =
    rw (at_exit c.from_residual-in_err-refuse_if-2.ensures)
    (past _ _ (not-one c.u32_at.ensures.0) (omega arith) c.in_ok-refuse_if.ensures
    (stopped _ _ (not-one c.u32_at-2.ensures.0) (number-above _) c.in_err-refuse_if-2.ensures))

pub returns-in_err-refuse_if-3 : goal.returns-in_err-refuse_if-3
returns-in_err-refuse_if-3 c =
    rw (at_exit c.from_residual-in_err-refuse_if-3.ensures)
    (past _ _ (not-one c.u32_at.ensures.0) (omega arith) c.in_ok-refuse_if.ensures
    (past _ _ (not-one c.u32_at-2.ensures.0) (omega arith) c.in_ok-refuse_if-2.ensures
    (stopped _ _ (not-one c.u32_at-3.ensures.0) (number-above _) c.in_err-refuse_if-3.ensures)))

pub returns : goal.returns
returns c =
    past _ _ (not-one c.u32_at.ensures.0) (omega arith) c.in_ok-refuse_if.ensures
    (past _ _ (not-one c.u32_at-2.ensures.0) (omega arith) c.in_ok-refuse_if-2.ensures
    (past _ _ (not-one c.u32_at-3.ensures.0) (omega arith) c.in_ok-refuse_if-3.ensures
    (rw (c.u32_at-4.ensures.0) at c.refuse_if-4.ensures)))
