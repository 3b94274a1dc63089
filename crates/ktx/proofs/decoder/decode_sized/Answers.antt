-- `ktx::decoder::decode_sized` meets its contract: the sizes, the said size and the block call, one after the other. Assumes nothing.
use Rattle.std.proofs.Common.{refl, ap, ◌∙◌}
use Rattle.facts.proofs.Said.{at_exit}
use Rattle.grid.specs.Words.{word_bytes}
use Rattle.pvrtc.proofs.Accepted.{few-across, few-down}
use Rattle.ktx.proofs.Sized.{unwritten, by-sizes, not-large, by-other, by_call}
use Rattle.ktx.proofs.decoder.decode_sized.Goals as goal

pub returns-in_err-check_sizes : goal.returns-in_err-check_sizes
returns-in_err-check_sizes c =
    let a = c.args in
    unwritten a.p a.size a.«data».now a.image.now (at_exit c.from_residual.ensures)
    (by-sizes a.p a.size a.«data».now a.image.now _ c.in_err-check_sizes.ensures)

pub need_of-need-requires : goal.need_of-need-requires
need_of-need-requires c =
    let a = c.args in
    let small = not-large a.p a.size a.«data».now a.image.now c.in_ok-check_sizes.ensures in
    rw c.grid_of.ensures (few-across a.p small, few-down a.p small)

pub returns-in_err-refuse_if : goal.returns-in_err-refuse_if
returns-in_err-refuse_if c =
    let a = c.args in
    unwritten a.p a.size a.«data».now a.image.now (at_exit c.from_residual-in_err-refuse_if.ensures)
    (by-other a.p a.size a.«data».now a.image.now c.in_ok-check_sizes.ensures (c.need_of-need.ensures ∙ ap word_bytes c.grid_of.ensures)
    _ c.in_err-refuse_if.ensures)

pub returns-in_err-decode_picture : goal.returns-in_err-decode_picture
returns-in_err-decode_picture c =
    let a = c.args in
    by_call a.p a.size a.«data».now a.image.now c.in_ok-check_sizes.ensures (c.need_of-need.ensures ∙ ap word_bytes c.grid_of.ensures)
    c.in_ok-refuse_if.ensures (at_exit c.from_residual-in_err-decode_picture.ensures) c.in_err-decode_picture.ensures

pub returns : goal.returns
returns c =
    let a = c.args in
    by_call a.p a.size a.«data».now a.image.now c.in_ok-check_sizes.ensures (c.need_of-need.ensures ∙ ap word_bytes c.grid_of.ensures)
    c.in_ok-refuse_if.ensures refl c.in_ok-decode_picture.ensures
