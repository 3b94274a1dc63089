-- `ktx::decoder::decode_ktx` meets its contract. Assumes nothing.
use Rattle.facts.proofs.Said.{at_exit}
use Rattle.ktx.proofs.Whole.{within, by-header, by-picture}
use Rattle.ktx.proofs.decoder.decode_ktx.Goals as goal

pub slice_bounds-decode_sized-count : goal.slice_bounds-decode_sized-count
slice_bounds-decode_sized-count c = within c.args.file.now c.args.image.now c.in_ok-plate.ensures

pub slice_bounds-decode_sized-start : goal.slice_bounds-decode_sized-start
slice_bounds-decode_sized-start c = within c.args.file.now c.args.image.now c.in_ok-plate.ensures

pub returns-in_err-plate : goal.returns-in_err-plate
returns-in_err-plate c =
    by-header c.args.file.now c.args.image.now (at_exit c.from_residual.ensures) c.in_err-plate.ensures

pub returns : goal.returns
returns c =
    let a = c.args in
    by-picture a.file.now a.image.now c.in_ok-plate.ensures
    (rw c.picture_of-p.ensures at c.decode_sized.ensures)
