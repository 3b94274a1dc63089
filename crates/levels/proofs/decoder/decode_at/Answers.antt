-- `levels::decoder::decode_at` meets its contract. Assumes nothing.
use Rattle.std.proofs.Common.{refl}
use Rattle.facts.proofs.Said.{at_exit}
use Rattle.levels.proofs.Whole.{decoded-at}
use Rattle.levels.proofs.decoder.decode_at.Goals as goal

pub returns-in_err-decode_picture : goal.returns-in_err-decode_picture
returns-in_err-decode_picture c =
    let a = c.args in
    rw (at_exit c.from_residual.ensures)
    (decoded-at a.file.now a.level c.min-start.ensures c.picture_of-p.ensures c.in_err-decode_picture.ensures refl)

pub returns : goal.returns
returns c =
    let a = c.args in
    decoded-at a.file.now a.level c.min-start.ensures c.picture_of-p.ensures c.in_ok-decode_picture.ensures refl
