-- `read` of `lanes::Codes` meets its contract: four bytes are the modulation. Assumes nothing.
use Rattle.std.proofs.Common.{◌≡◌, arith}
use Rattle.word.specs.Word.{modulation}
use Rattle.lanes.specs.Block4bpp.{codes_of}
use Rattle.lanes.specs.Column.{word_at}
use Rattle.lanes.proofs.Reading.{modulation-read}
use Rattle.lanes.proofs.coding.CodesModulation.read.Goals as goal

pub returns : goal.returns
unfolding codes_of
returns c =
    let a = c.args in
    let m : c.from_le_bytes.result ≡ modulation (word_at a.d.now a.z) = omega (arith, c.from_le_bytes.ensures, modulation-read a.d.now a.z) in
    (rw (m, c.mode_at.ensures), tt)
