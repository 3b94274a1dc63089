-- The table's address is the bit-by-bit one at every place of every accepted picture. Assumes nothing.
use Rattle.std.proofs.Common.{length}
use Rattle.grid.proofs.Address.{placed}
use Rattle.grid.proofs.Interleave.{interleaved}
use Rattle.grid.proofs.Spreading.{table-agrees}
use Rattle.pvrtc.specs.Picture.{grid_of}
use Rattle.pvrtc.proofs.Accepted.{accepted, power-across, power-down, few-across, few-down}
use Rattle.demands.specs.Table.{TableAgrees}

pub same_address : TableAgrees
same_address p c d e x y hx hy =
    let ok = accepted p c (length d) e in
    let px = power-across p ok.powers in
    let py = power-down p ok.powers in
    let gx = (grid_of p).across in
    let gy = (grid_of p).down in
    let at = placed gx gy x y px py (few-across p ok.small) (few-down p ok.small) hx hy in
    record { asked = at; agrees = table-agrees gx gy x y at; bit-by-bit = interleaved gx gy x y px py hx hy }
