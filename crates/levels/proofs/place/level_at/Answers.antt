-- `levels::place::level_at` meets its contract: after i steps it is at level i. The measure is how many are left. Assumes nothing.
use Rattle.std.proofs.Common.{ap, ◌∙◌, arith}
use Rattle.levels.specs.Inner.{next_level}
use Rattle.levels.proofs.Ranges.{first-is, next-is, small_at}
use Rattle.levels.proofs.place.level_at.Goals as goal

pub loop-init : goal.loop-init
loop-init c = (c.first_level-level.ensures ∙ first-is c.args.l, omega arith)

pub next_level-level-requires : goal.next_level-level-requires
next_level-level-requires c =
    rw c.loop.invariant.0 (small_at c.args.l c.requires.0 c.loop.counter (omega (arith, c.requires.1)))

pub loop-preserved : goal.loop-preserved
loop-preserved c =
    let loop = c.loop in
    let l = c.args.l in
    (c.next_level-level.ensures ∙ ap (next_level l.sized) loop.invariant.0 ∙ next-is l loop.counter, omega arith)
