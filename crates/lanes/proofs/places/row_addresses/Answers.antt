-- `lanes::places::row_addresses` meets its contract: each row of the three is one of the grid. Assumes nothing.
use Rattle.std.proofs.Common.{sym}
use Rattle.grid.proofs.Torus.{beside-own}
use Rattle.lanes.proofs.Placing.{addresses-are, placed_row}
use Rattle.lanes.proofs.places.row_addresses.Goals as goal

pub morton_index_by_table-requires : goal.morton_index_by_table-requires
morton_index_by_table-requires c =
    placed_row c.requires.0 c.args.by 0 c.smaller-smaller.ensures c.previous_block.ensures

pub morton_index_by_table-requires-2 : goal.morton_index_by_table-requires-2
morton_index_by_table-requires-2 c =
    placed_row c.requires.0 c.args.by 1 c.smaller-smaller.ensures (sym (beside-own c.args.g.down c.args.by c.requires.1))

pub morton_index_by_table-requires-3 : goal.morton_index_by_table-requires-3
morton_index_by_table-requires-3 c =
    placed_row c.requires.0 c.args.by 2 c.smaller-smaller.ensures c.next_block.ensures

pub returns : goal.returns
returns c =
    addresses-are c.args.g c.args.by c.requires.1 c.smaller-smaller.ensures c.previous_block.ensures c.next_block.ensures
    c.morton_index_by_table.ensures c.morton_index_by_table-2.ensures c.morton_index_by_table-3.ensures
