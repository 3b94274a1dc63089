-- `samples::sum_of_bytes` meets its contract. The loop keeps the checksum of those so far. Assumes nothing.
use Rattle.std.proofs.Common.{◌≡◌}
use Rattle.samples.specs.Sums.{checksum}
use Rattle.samples.proofs.sum_of_bytes.Given as goal

abbrev pub invariant-loop-byte : goal.invariant-loop-byte
invariant-loop-byte l = l.sum ≡ checksum 31 2147483647 l.bytes l.byte-index
