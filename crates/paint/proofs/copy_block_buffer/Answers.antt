-- `paint::copy_block_buffer` meets its contract. The loop keeps that the first j rows of the block are laid. Assumes nothing.
use Rattle.std.proofs.Common.{refl, ◌+◌, ◌*◌, ◌≤◌, mul-le-mul_right, arith}
use Rattle.paint.proofs.Laid.{part_none, copied-part}
use Rattle.paint.proofs.Sheets.{row-in-room}
use Rattle.paint.proofs.copy_block_buffer.Goals as goal

pub loop-j-init : goal.loop-j-init
loop-j-init c = part_none _ _ _ _ _ c.requires.0.apart

pub loop-j-preserved : goal.loop-j-preserved
loop-j-preserved c =
    let j = c.loop-j.j in
    let more : j + 1 ≤ c.args.part.height = omega arith in
    let in-buffer : j * c.args.bw + c.args.part.width ≤ 32 = omega (arith, mul-le-mul_right c.args.bw more, c.requires.1, c.requires.2) in
    copied-part c.args.buffer.now (j * c.args.bw) c.loop-j.invariant c.requires.0.apart
    (row-in-room c.requires.0 j c.loop-j-test.true)
    (omega (arith, in-buffer, c.told-buffer))
    (λ x h. refl) c.copy_from_slice.ensures.after (omega arith) (omega arith)
