-- `lanes::filling::read_rows` meets its contract, byte by byte. Assumes nothing.
use Rattle.std.proofs.Common.{ℕ, ◌<◌, get_or, arith}
use Rattle.lanes.specs.Column.{word_at}
use Rattle.lanes.proofs.Stored.{row-0, row-1, row-2, row-3, rows_are}
use Rattle.lanes.proofs.filling.read_rows.Goals as goal

pub returns : goal.returns
returns c =
    let d = c.args.d.now in
    let z = c.args.z in
    let small : (i : ℕ) → get_or d i 0 < 256 = λ i. omega (arith, c.type_inv.d i) in
    let one = c.mode_at-mode.ensures in
    rows_are (word_at d z)
    (row-0 d z small one c.first_row.ensures).0
    (row-1 d z small one c.odd_row.ensures).0
    (row-2 d z small one c.third_row.ensures).0
    (row-3 d z small one c.odd_row-2.ensures).0
