-- `lanes::row::lay_row` meets its contract. The loop keeps the two sums of place i, and that the words before it are laid. Assumes nothing.
use Rattle.std.proofs.Common.{arith}
use Rattle.lanes.proofs.Laying.{row-start, small-enough, half-small, made, word-laid, word_cut}
use Rattle.lanes.proofs.row.lay_row.Goals as goal
use Rattle.lanes.proofs.row.lay_row.Goals.{then-i-columns, else-i-columns}

pub loop-i-init : goal.loop-i-init
loop-i-init g c = row-start c.first-sum_a.ensures c.first-sum_b.ensures

pub fit-fit_a-requires : goal.fit-fit_a-requires
fit-fit_a-requires g c =
    let small = half-small _ c.HALF-h.ensures g.met.M.Modulation.half_is in
    let l = c.loop-i.invariant in
    (small.0, small.1, small-enough c.requires.small_sums.0 small.1 l.early l.is-a)

pub fit-fit_b-requires : goal.fit-fit_b-requires
fit-fit_b-requires g c =
    let small = half-small _ c.HALF-h.ensures g.met.M.Modulation.half_is in
    let l = c.loop-i.invariant in
    (small.0, small.1, small-enough c.requires.small_sums.1 small.1 l.early l.is-b)

pub loop-i-preserved : goal.loop-i-preserved
loop-i-preserved g c =
    let l = c.loop-i in
    let i = l.invariant in
    let word = rw (i.is-a, i.is-b) at (made _ l.sum_a l.sum_b c.fit-fit_a.ensures.0 c.fit-fit_b.ensures.0 c.meaning-meaning.ensures.0 c.mix-texel.ensures) in
    let a = c.step-sum_a.ensures in
    let b = c.step-sum_b.ensures in
    elim c.if-i-columns.branch [
      | then-i-columns laid ↦ rw laid.image-is (word-laid i c.loop-i-test.true a b word (omega (arith, laid.if-i-columns.true)) c.requires.columns_bound.1)
      | else-i-columns cut ↦ rw cut.image-is (word_cut i c.loop-i-test.true a b cut.if-i-columns.false)
    ]
