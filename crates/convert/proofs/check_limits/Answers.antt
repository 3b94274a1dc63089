-- `convert::check_limits` meets its contract: the limits are asked in their order. Assumes nothing.
use Rattle.std.proofs.Common.{◌≡◌, false, ltb, [], ◌∷◌, sym, refl, ap, ◌∙◌, arith}
use Rattle.facts.specs.Checks.{check}
use Rattle.facts.proofs.Checks.{none_said}
use Rattle.facts.proofs.Said.{at_exit}
use Rattle.files.specs.Reading.{fits_size}
use Rattle.files.proofs.Answers.{past, stopped}
use Rattle.grid.specs.Words.{word_bytes}
use Rattle.pvrtc.specs.Picture.{grid_of}
use Rattle.pvrtc.specs.Refusals.{need, zero_side}
use Rattle.pvrtc.proofs.Accepted.{few-across, few-down}
use Rattle.convert.specs.Numbers.{number-above}
use Rattle.convert.specs.Output.{picture_of, long_side}
use Rattle.convert.proofs.Limits.{not-large}
use Rattle.convert.proofs.check_limits.Goals as goal

pub returns-in_err-refuse_if : goal.returns-in_err-refuse_if
returns-in_err-refuse_if c = rw (at_exit c.from_residual.ensures) (stopped _ _ refl (number-above _) c.in_err-refuse_if.ensures)

pub returns-in_err-refuse_if-2 : goal.returns-in_err-refuse_if-2
returns-in_err-refuse_if-2 c =
    rw (at_exit c.from_residual-in_err-refuse_if-2.ensures)
    (past _ _ refl (omega arith) c.in_ok-refuse_if.ensures
    (stopped _ _ refl (number-above _) c.in_err-refuse_if-2.ensures))

pub returns-in_err-refuse_if-3 : goal.returns-in_err-refuse_if-3
returns-in_err-refuse_if-3 c =
    rw (at_exit c.from_residual-in_err-refuse_if-3.ensures)
    (past _ _ refl (omega arith) c.in_ok-refuse_if.ensures
    (past _ _ refl (omega arith) c.in_ok-refuse_if-2.ensures
    (stopped _ _ (c.has_zero_side.ensures ∙ ap zero_side c.picture_of-p.ensures) (number-above _) c.in_err-refuse_if-3.ensures)))

pub returns-in_err-refuse_if-4 : goal.returns-in_err-refuse_if-4
returns-in_err-refuse_if-4 c =
    rw (at_exit c.from_residual-in_err-refuse_if-4.ensures)
    (past _ _ refl (omega arith) c.in_ok-refuse_if.ensures
    (past _ _ refl (omega arith) c.in_ok-refuse_if-2.ensures
    (past _ _ (c.has_zero_side.ensures ∙ ap zero_side c.picture_of-p.ensures) (omega arith) c.in_ok-refuse_if-3.ensures
    (stopped _ _ (c.has_long_side.ensures ∙ ap long_side c.picture_of-p.ensures) (number-above _) c.in_err-refuse_if-4.ensures))))

pub need_of-need-requires : goal.need_of-need-requires
need_of-need-requires c =
    let p = picture_of c.args.s in
    let short : long_side p ≡ false =
    sym (c.has_long_side.ensures ∙ ap long_side c.picture_of-p.ensures)
    ∙ none_said (check c.has_long_side.result 22 ∷ []) tt (sym c.in_ok-refuse_if-4.ensures) 22 in
    rw (c.grid_of.ensures ∙ ap grid_of c.picture_of-p.ensures) (few-across p (not-large p short), few-down p (not-large p short))

pub returns-in_err-refuse_if-5 : goal.returns-in_err-refuse_if-5
returns-in_err-refuse_if-5 c =
    let asked : c.need_of-need.result ≡ need (picture_of c.args.s) =
    c.need_of-need.ensures ∙ ap word_bytes (c.grid_of.ensures ∙ ap grid_of c.picture_of-p.ensures) in
    rw (at_exit c.from_residual-in_err-refuse_if-5.ensures)
    (past _ _ refl (omega arith) c.in_ok-refuse_if.ensures
    (past _ _ refl (omega arith) c.in_ok-refuse_if-2.ensures
    (past _ _ (c.has_zero_side.ensures ∙ ap zero_side c.picture_of-p.ensures) (omega arith) c.in_ok-refuse_if-3.ensures
    (past _ _ (c.has_long_side.ensures ∙ ap long_side c.picture_of-p.ensures) (omega arith) c.in_ok-refuse_if-4.ensures
    (stopped _ _ (ap (ltb 32768) asked) (number-above _) c.in_err-refuse_if-5.ensures)))))

pub returns : goal.returns
returns c =
    let asked : c.need_of-need.result ≡ need (picture_of c.args.s) =
    c.need_of-need.ensures ∙ ap word_bytes (c.grid_of.ensures ∙ ap grid_of c.picture_of-p.ensures) in
    past _ _ refl (omega arith) c.in_ok-refuse_if.ensures
    (past _ _ refl (omega arith) c.in_ok-refuse_if-2.ensures
    (past _ _ (c.has_zero_side.ensures ∙ ap zero_side c.picture_of-p.ensures) (omega arith) c.in_ok-refuse_if-3.ensures
    (past _ _ (c.has_long_side.ensures ∙ ap long_side c.picture_of-p.ensures) (omega arith) c.in_ok-refuse_if-4.ensures
    (past _ _ (ap (ltb 32768) asked) (omega arith) c.in_ok-refuse_if-5.ensures
    (rw (c.fits_size.ensures ∙ ap (fits_size c.args.s.size) asked) at c.refuse_if-6.ensures)))))
