-- `samples::sum_of_words` meets its contract. The loop keeps the checksum of those so far. Assumes nothing.
use Rattle.std.proofs.Common.{◌≡◌}
use Rattle.samples.specs.Sums.{checksum}
use Rattle.samples.proofs.sum_of_words.Given as goal

abbrev pub invariant-loop-word : goal.invariant-loop-word
invariant-loop-word l = l.sum ≡ checksum 1103515245 8589934583 l.words l.word-index
