-- `lanes::filling::codes_row` meets its contract: it computes the definition. Assumes nothing.
use Rattle.std.proofs.Common.{ℕ, ◌*◌, ◌≤◌, bit_and, refl, arith}
use lib.Bits.{and_le_r}
use Rattle.lanes.specs.Block2bpp.{code_row}
use Rattle.lanes.proofs.filling.codes_row.Goals as goal

-- what the two masks leave
masked : (b : ℕ) → let v = b * 0x0000040010004001 in (bit_and v 0x0001000100010001 ≤ 0x0001000100010001) × (bit_and v 0x0002000200020002 ≤ 0x0002000200020002)
masked b = let v = b * 0x0000040010004001 in (and_le_r v 0x0001000100010001, and_le_r v 0x0002000200020002)

pub returns : goal.returns
unfolding code_row
returns c = (refl, omega (arith, masked c.args.b))
