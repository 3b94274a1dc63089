-- `texel::words::word_if` meets its contract, by the share. Assumes nothing.
use Rattle.texel.proofs.Nine.{placed-there, in-data}
use Rattle.texel.proofs.words.word_if.Goals as goal

pub morton_index_by_table-requires : goal.morton_index_by_table-requires
morton_index_by_table-requires c =
    let n = c.neighbour-x.ensures in
    placed-there c.args.w.stands _ _ _ n.0 n.1 c.smaller.ensures

pub word_at-requires : goal.word_at-requires
word_at-requires c =
    let n = c.neighbour-x.ensures in
    in-data c.args.w.stands _ _ _ n.0 n.1 c.smaller.ensures c.morton_index_by_table.ensures
