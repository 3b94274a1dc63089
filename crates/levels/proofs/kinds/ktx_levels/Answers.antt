-- `levels::kinds::ktx_levels` meets its contract. Assumes nothing.
use Rattle.std.proofs.Common.{ℕ, ltb, [], ◌∷◌, length, ap, ◌∙◌}
use Rattle.facts.specs.Checks.{check, first_of}
use Rattle.facts.proofs.Said.{at_exit}
use Rattle.levels.proofs.Answers.{by-refusal, ktx-refused, by-cut, ktx-found}
use Rattle.levels.proofs.kinds.ktx_levels.Goals as goal

pub returns-in_err-plate : goal.returns-in_err-plate
returns-in_err-plate c = rw (at_exit c.from_residual.ensures) (ktx-refused c.args.file.now c.in_err-plate.ensures)

pub returns-in_err-refuse_if : goal.returns-in_err-refuse_if
returns-in_err-refuse_if c =
    let file = c.args.file.now in
    let at = ap (λ (n : ℕ). first_of (check (ltb (length file) n) 37 ∷ [])) c.size_place-start.ensures.0 in
    rw (at_exit c.from_residual-in_err-refuse_if.ensures)
    (by-refusal (by-cut file c.in_ok-plate.ensures (c.in_err-refuse_if.ensures ∙ at)))

pub returns : goal.returns
returns c =
    let file = c.args.file.now in
    let at = ap (λ (n : ℕ). first_of (check (ltb (length file) n) 37 ∷ [])) c.size_place-start.ensures.0 in
    ktx-found file c.in_ok-plate.ensures (c.in_ok-refuse_if.ensures ∙ at) c.level_count.ensures.0 c.size_place-start.ensures
