-- `texel::words::nine_words` meets its contract. The loop keeps that the first k words are read. Assumes nothing.
use Rattle.std.proofs.Common.{refl, arith}
use Rattle.facts.proofs.Tab.{filled_none, filled_more, filled-end}
use Rattle.texel.specs.Inner.{nine_about}
use Rattle.texel.proofs.Nine.{placed-there, in-data, word-there}
use Rattle.texel.proofs.words.nine_words.Goals as goal

pub loop-k-init : goal.loop-k-init
loop-k-init c = filled_none _ _

pub morton_index-requires : goal.morton_index-requires
morton_index-requires c =
    let n = c.neighbour-x.ensures in
    placed-there c.args.w.stands _ _ _ n.0 n.1 c.smaller.ensures

pub word_at-requires : goal.word_at-requires
word_at-requires c =
    let n = c.neighbour-x.ensures in
    in-data c.args.w.stands _ _ _ n.0 n.1 c.smaller.ensures c.morton_index.ensures

pub loop-k-preserved : goal.loop-k-preserved
loop-k-preserved c =
    let n = c.neighbour-x.ensures in
    filled_more c.loop-k.invariant
    (word-there c.args.w.stands _ _ _ n.0 n.1 c.smaller.ensures c.morton_index.ensures _ c.word_at.ensures)
    (omega arith)

pub returns : goal.returns
unfolding nine_about
returns c = filled-end 9 c.loop-k.invariant (omega arith) refl
