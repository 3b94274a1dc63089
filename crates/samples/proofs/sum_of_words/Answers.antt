-- `samples::sum_of_words` meets its contract. The loop keeps the checksum of those so far. Assumes nothing.
use Rattle.std.proofs.Common.{◌≡◌, length, refl, ap, ◌∙◌, arith}
use Rattle.samples.specs.Sums.{checksum}
use Rattle.samples.proofs.Laws.{sum_more}
use Rattle.samples.proofs.sum_of_words.Goals as goal

pub loop-word-init : goal.loop-word-init
unfolding checksum
loop-word-init c = refl

pub loop-word-preserved : goal.loop-word-preserved
loop-word-preserved c = c.with_number-sum.ensures ∙ sum_more 1103515245 8589934583 _ _ c.loop-word.invariant

pub returns : goal.returns
returns c =
    let all : c.loop-word.word-index ≡ length c.args.words.now = omega arith in
    c.loop-word.invariant ∙ ap (checksum 1103515245 8589934583 c.args.words.now) all
