-- `pvrtc::layout::side_in` meets its contract, mode by mode. Assumes nothing.
use Rattle.std.proofs.Common.{arith}
use Rattle.pvrtc.specs.Picture.{side_in}
use Rattle.pvrtc.proofs.layout.side_in.Goals as goal

pub returns-in-Rust : goal.returns-in-Rust
unfolding side_in
returns-in-Rust c = rw c.in-Rust.is

pub returns-in-Stored : goal.returns-in-Stored
unfolding side_in
returns-in-Stored c = rw c.in-Stored.is (omega (arith, c.max.ensures))
