-- `levels::check::check_size_word` meets its contract: the end of the file, then the word itself. Assumes nothing.
use Rattle.std.proofs.Common.{ℕ, not, eqb, [], ◌∷◌, refl, ap, ◌∙◌, arith}
use Rattle.facts.specs.Checks.{check, first_of}
use Rattle.facts.proofs.Said.{at_exit}
use Rattle.files.proofs.Answers.{past, stopped}
use Rattle.levels.specs.Numbers.{number-above}
use Rattle.levels.proofs.check.check_size_word.Goals as goal

pub returns-in_err-refuse_if : goal.returns-in_err-refuse_if
returns-in_err-refuse_if c = rw (at_exit c.from_residual.ensures) (stopped _ _ refl (number-above _) c.in_err-refuse_if.ensures)

pub returns : goal.returns
returns c =
    let need = c.args.level.need in
    past _ _ refl (omega arith) c.in_ok-refuse_if.ensures
    (c.refuse_if-2.ensures ∙ ap (λ (w : ℕ). first_of (check (not (eqb w need)) 36 ∷ [])) c.u32_at-word.ensures.0)
