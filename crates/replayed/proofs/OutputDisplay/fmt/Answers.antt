-- `replayed::Output` is printed as its definition says. Assumes nothing.
use Rattle.std.proofs.Common.{◌<◌, ◌≤◌, length, subst, sym}
use Rattle.std.specs.Str.{IsUtf8}
use Rattle.replayed.proofs.Texts.{a-line, no-line}
use Rattle.replayed.proofs.OutputDisplay.fmt.Goals as goal
use Rattle.replayed.proofs.OutputDisplay.fmt.Goals.{in_default-via-in-Ok+else-line-lt12, in_default-via-in_default}

pub returns-in-Ok-clause-writes : goal.returns-in-Ok-clause-writes
returns-in-Ok-clause-writes g c plain ok =
    let same = c.in-Ok.ensures.cases.0 in
    rw (a-line c.args.self.now.0.now c.in-Ok.ensures.cases.1 (subst (λ bytes. length bytes < 12) same c.if-line-lt12.true), sym same)
    (c.write_str.ensures.writes plain ok)

pub returns-in_default-clause-writes : goal.returns-in_default-clause-writes
returns-in_default-clause-writes g c plain ok =
    rw (no-line c.args.self.now.0.now long, sym c.sum_of_bytes-sum.ensures) (c.writeln.ensures.writes plain ok)
  where
    long : IsUtf8 c.args.self.now.0.now → 12 ≤ length c.args.self.now.0.now
    long text = elim c.in_default.branch [
      | in_default-via-in-Ok+else-line-lt12 w ↦ subst (λ bytes. 12 ≤ length bytes) w.in-Ok.ensures.cases.0 w.if-line-lt12.false
      | in_default-via-in_default w ↦ absurd (w.in_default.ensures.cases.0 text)
    ]
