-- `samples::sum_of_bytes` meets its contract. The loop keeps the checksum of those so far. Assumes nothing.
use Rattle.std.proofs.Common.{◌≡◌, ℕ, ◌+◌, ◌*◌, ◌%◌, length, refl, ap, ◌∙◌, arith}
use Rattle.samples.specs.Sums.{checksum}
use Rattle.samples.proofs.Laws.{sum_more}
use Rattle.samples.proofs.sum_of_bytes.Goals as goal

pub loop-byte-init : goal.loop-byte-init
unfolding checksum
loop-byte-init c = refl

pub loop-byte-preserved : goal.loop-byte-preserved
loop-byte-preserved c =
    c.with_number-sum.ensures ∙ ap (λ (n : ℕ). (c.loop-byte.sum % 2147483647 * 31 + n) % 2147483647) c.from.ensures
    ∙ sum_more 31 2147483647 _ _ c.loop-byte.invariant

pub returns : goal.returns
returns c =
    let all : c.loop-byte.byte-index ≡ length c.args.bytes.now = omega arith in
    c.loop-byte.invariant ∙ ap (checksum 31 2147483647 c.args.bytes.now) all
