-- `convert::read_file` meets its contract: the reader of the file's kind speaks. Assumes nothing.
use Rattle.std.proofs.Common.{sym, refl, ◌∙◌}
use Rattle.facts.proofs.Said.{at_exit}
use Rattle.convert.proofs.Either.{as-ktx, as-pvr}
use Rattle.convert.proofs.Whole.{kind-refused, kind-plate}
use Rattle.convert.proofs.read_file.Goals as goal

pub returns-in_err-read_plate : goal.returns-in_err-read_plate
returns-in_err-read_plate c =
    rw (at_exit c.from_residual.ensures)
    (kind-refused c.args.file.now (as-ktx c.args.file.now (sym c.is_ktx.ensures ∙ c.if-is_ktx.true)) refl c.in_err-read_plate.ensures)

pub returns-in_err-read_plate-2 : goal.returns-in_err-read_plate-2
returns-in_err-read_plate-2 c =
    rw (at_exit c.from_residual-in_err-read_plate-2.ensures)
    (kind-refused c.args.file.now (as-pvr c.args.file.now (sym c.is_ktx.ensures ∙ c.if-is_ktx.false)) refl c.in_err-read_plate-2.ensures)

pub returns-in_ok-read_plate : goal.returns-in_ok-read_plate
returns-in_ok-read_plate c = kind-plate c.args.file.now (as-ktx c.args.file.now (sym c.is_ktx.ensures ∙ c.if-is_ktx.true)) c.in_ok-read_plate.ensures

pub returns-in_ok-read_plate-2 : goal.returns-in_ok-read_plate-2
returns-in_ok-read_plate-2 c = kind-plate c.args.file.now (as-pvr c.args.file.now (sym c.is_ktx.ensures ∙ c.if-is_ktx.false)) c.in_ok-read_plate-2.ensures
