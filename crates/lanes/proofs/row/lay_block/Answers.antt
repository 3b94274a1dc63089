-- `lanes::row::lay_block` meets its contract. The loop keeps that the rows before row j are laid. Assumes nothing.
use Rattle.std.proofs.Common.{refl, arith}
use Rattle.paint.proofs.Laid.{part_none, row-part}
use Rattle.paint.proofs.Sheets.{row-in-room}
use Rattle.lanes.proofs.row.lay_block.Goals as goal

pub loop-j-init : goal.loop-j-init
loop-j-init g c = (omega arith, part_none _ _ _ _ _ c.requires.fits.0.apart)

pub loop-j-preserved : goal.loop-j-preserved
loop-j-preserved g c =
    let fits = c.requires.fits.0 in (
      omega (arith, c.loop-j-test.true),
      row-part c.loop-j.invariant.1 fits.apart (row-in-room fits c.loop-j.j c.loop-j-test.true) refl (rw c.row.ensures at c.lay_row.ensures),
    )
