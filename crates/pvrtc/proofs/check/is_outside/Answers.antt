-- `pvrtc::check::is_outside` meets its contract, call by call. Assumes nothing.
use Rattle.std.proofs.Common.{le-leb}
use borrow.Author.Tests.{lt-leb}
use Rattle.pvrtc.specs.Refusals.{outside}
use Rattle.pvrtc.proofs.check.is_outside.Goals as goal

pub returns-then-x-p : goal.returns-then-x-p
unfolding outside
returns-then-x-p c = rw c.in-Texel.is (simp (le-leb _ _ c.if-x-p.true))

pub returns-else-x-p : goal.returns-else-x-p
unfolding outside
returns-else-x-p c = rw c.in-Texel.is (simp (lt-leb _ _ c.if-x-p.false))

pub returns-in-Row : goal.returns-in-Row
unfolding outside
returns-in-Row c = rw c.in-Row.is

pub returns-in-Block : goal.returns-in-Block
unfolding outside
returns-in-Block c = rw c.in-Block.is
