-- The sides of a grid in either mode. Assumes nothing.
use Rattle.std.proofs.Common.{ℕ, ◌≤◌, arith}
use Rattle.pvrtc.specs.declared.GridMode.{GridMode}
use Rattle.pvrtc.specs.declared.GridMode.TheVariants.{Rust, Stored}
use Rattle.pvrtc.specs.Picture.{side_in}

-- a side has the blocks that cover the picture
pub side-covers : (m : GridMode) (n : ℕ) → n ≤ side_in m n
unfolding side_in
side-covers Rust n = omega arith
side-covers Stored n = omega arith

-- and no more than so many, unless these are fewer than two
pub side-small : (m : GridMode) (n most : ℕ) → 2 ≤ most → n ≤ most → side_in m n ≤ most
unfolding side_in
side-small Rust n most two h = h
side-small Stored n most two h = omega arith
