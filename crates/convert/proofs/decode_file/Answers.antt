-- `convert::decode_file` meets its contract: the header speaks, then the limits, then the block call. Assumes nothing.
use Rattle.std.proofs.Common.{◌≡◌, drop, refl, ap, ◌∙◌}
use Rattle.facts.proofs.Said.{at_exit}
use Rattle.files.specs.declared.Stored.{Stored}
use Rattle.files.proofs.Fields.{rest-is}
use Rattle.convert.specs.Output.{level_data}
use Rattle.convert.proofs.Whole.{by-header, by-limit, by_call, by-picture}
use Rattle.convert.proofs.decode_file.Goals as goal
use Rattle.convert.proofs.decode_file.Goals.{After-unwrap_or-data}

-- the data that is lent is what is left behind the payload's place
level-0 : (k : After-unwrap_or-data) → k.unwrap_or-data.result.now ≡ level_data k.args.file.now
level-0 k =
    rest-is k.args.file.now k.in_ok-s.s.payload _ _ k.get.ensures.lookup refl k.unwrap_or-data.ensures
    ∙ ap (λ (s : Stored). drop s.payload k.args.file.now) k.in_ok-s.ensures.plate

pub returns-in_err-s : goal.returns-in_err-s
returns-in_err-s c = rw (at_exit c.from_residual.ensures) (by-header c.args.file.now c.args.image.now c.in_err-s.ensures)

pub returns-in_err-check_limits : goal.returns-in_err-check_limits
returns-in_err-check_limits c =
    let a = c.args in
    rw (at_exit c.from_residual-in_err-check_limits.ensures) (by-limit a.file.now a.image.now c.in_ok-s.ensures c.in_err-check_limits.ensures)

pub returns-in_err-decode_picture : goal.returns-in_err-decode_picture
returns-in_err-decode_picture c =
    let a = c.args in
    rw (at_exit c.from_residual-in_err-decode_picture.ensures)
    (by_call a.file.now a.image.now c.in_ok-s.ensures c.in_ok-check_limits.ensures c.requires
    (level-0 (goal.at.returns-in_err-decode_picture c).After-unwrap_or-data)
    (rw c.picture_of.ensures at c.in_err-decode_picture.ensures) refl)

pub returns : goal.returns
returns c =
    let a = c.args in
    by-picture a.file.now a.image.now c.in_ok-s.ensures c.in_ok-check_limits.ensures c.requires
    (level-0 (goal.at.returns c).After-unwrap_or-data)
    (rw c.picture_of.ensures at c.in_ok-decode_picture.ensures) refl
