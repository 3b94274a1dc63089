-- `lanes::filling::bits_row` meets its contract: it computes the definition. Assumes nothing.
use Rattle.std.proofs.Common.{◌+◌, ◌*◌, ◌/◌, bit_and, refl}
use lib.Bits.{and_le_r}
use Rattle.lanes.specs.Block2bpp.{bit_row}
use Rattle.lanes.proofs.filling.bits_row.Goals as goal

pub returns : goal.returns
unfolding bit_row
returns c = (refl, and_le_r ((bit_and (c.args.b * 0x0101010101010101) 0x8040201008040201 + 0x00406070787c7e7f) / 16) 0x0808080808080808)
