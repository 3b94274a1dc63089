-- `pvr::read_header` meets its contract: the checks are made in their order, and past the last the fields are those of the definition. Assumes nothing.
use Rattle.std.proofs.Common.{◌≡◌, ℕ, not, ltb, sym, refl, ap, ◌∙◌, arith}
use Rattle.facts.proofs.Said.{at_exit}
use Rattle.files.proofs.Answers.{past, stopped}
use Rattle.pvr.specs.Header.{known_flags, header_refusal}
use Rattle.pvr.specs.Numbers.{number-above}
use Rattle.pvr.proofs.Answers.{by-refusal, by-plate}
use Rattle.pvr.proofs.read_header.Goals as goal

pub returns-in_err-refuse_if : goal.returns-in_err-refuse_if
returns-in_err-refuse_if c =
    rw (at_exit c.from_residual.ensures) (by-refusal (stopped _ _ refl (number-above _) c.in_err-refuse_if.ensures))

pub returns-in_err-refuse_if-2 : goal.returns-in_err-refuse_if-2
returns-in_err-refuse_if-2 c =
    rw (at_exit c.from_residual-in_err-refuse_if-2.ensures)
    (by-refusal
    (past _ _ refl (omega arith) c.in_ok-refuse_if.ensures
    (stopped _ _ (ap not c.starts_with.ensures) (number-above _) c.in_err-refuse_if-2.ensures)))

pub returns-in_err-refuse_if-3 : goal.returns-in_err-refuse_if-3
returns-in_err-refuse_if-3 c =
    rw (at_exit c.from_residual-in_err-refuse_if-3.ensures)
    (by-refusal
    (past _ _ refl (omega arith) c.in_ok-refuse_if.ensures
    (past _ _ (ap not c.starts_with.ensures) (omega arith) c.in_ok-refuse_if-2.ensures
    (stopped _ _ (ap not (c.are_known_flags.ensures ∙ ap known_flags c.u32_at-flags.ensures.0)) (number-above _) c.in_err-refuse_if-3.ensures))))

pub returns-in_err-refuse_if-4 : goal.returns-in_err-refuse_if-4
returns-in_err-refuse_if-4 c =
    rw (at_exit c.from_residual-in_err-refuse_if-4.ensures)
    (by-refusal
    (past _ _ refl (omega arith) c.in_ok-refuse_if.ensures
    (past _ _ (ap not c.starts_with.ensures) (omega arith) c.in_ok-refuse_if-2.ensures
    (past _ _ (ap not (c.are_known_flags.ensures ∙ ap known_flags c.u32_at-flags.ensures.0)) (omega arith) c.in_ok-refuse_if-3.ensures
    (stopped _ _ (ap (ltb 3) c.u64_at-format.ensures) (number-above _) c.in_err-refuse_if-4.ensures)))))

pub returns-in_err-check_counts : goal.returns-in_err-check_counts
returns-in_err-check_counts c =
    rw (at_exit c.from_residual-in_err-check_counts.ensures)
    (by-refusal
    (past _ _ refl (omega arith) c.in_ok-refuse_if.ensures
    (past _ _ (ap not c.starts_with.ensures) (omega arith) c.in_ok-refuse_if-2.ensures
    (past _ _ (ap not (c.are_known_flags.ensures ∙ ap known_flags c.u32_at-flags.ensures.0)) (omega arith) c.in_ok-refuse_if-3.ensures
    (past _ _ (ap (ltb 3) c.u64_at-format.ensures) (omega arith) c.in_ok-refuse_if-4.ensures c.in_err-check_counts.ensures)))))

pub returns : goal.returns
returns c =
    let accepted : 0 ≡ header_refusal c.args.file.now =
    past _ _ refl (omega arith) c.in_ok-refuse_if.ensures
    (past _ _ (ap not c.starts_with.ensures) (omega arith) c.in_ok-refuse_if-2.ensures
    (past _ _ (ap not (c.are_known_flags.ensures ∙ ap known_flags c.u32_at-flags.ensures.0)) (omega arith) c.in_ok-refuse_if-3.ensures
    (past _ _ (ap (ltb 3) c.u64_at-format.ensures) (omega arith) c.in_ok-refuse_if-4.ensures c.in_ok-check_counts.ensures))) in
    by-plate
    (record {
      accepted = sym accepted;
      width = c.u32_at.ensures.0;
      height = c.u32_at-2.ensures.0;
      depth = ap (λ (n : ℕ). ltb n 2) c.u64_at-format.ensures;
      payload = c.payload_offset.ensures.0;
    })
