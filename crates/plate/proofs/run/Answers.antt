-- `plate::run` meets its contract: what was read is the file's, and what was written its output. Assumes nothing.
use Rattle.std.proofs.Common.{◌≤◌, length, arith}
use Rattle.plate.proofs.Whole.{few, whole, on_both}
use Rattle.plate.proofs.run.Goals as goal

pub returns-clause-whole : goal.returns-clause-whole
returns-clause-whole g c =
    let n = c.in_ok-n.n in
    let inside : n ≤ length c.read_input.new.buf = omega (arith, few n _ c.in_ok-n.ensures.stopped) in
    on_both c.write_all.result c.map_err.result c.map_err.ensures.variant
    (whole _ _ _ _ n c.read_input.new.buf _ _ inside c.in_ok-n.ensures.stopped c.in_ok-n.ensures.took c.answer-m.ensures)
    c.write_all.ensures.bytes
