-- `texel::weights::fill` meets its contract, rule by rule. Assumes nothing.
use Rattle.std.proofs.Common.{arith}
use Rattle.grid.specs.Grid.{half}
use Rattle.texel.proofs.Made.{by-nothing, by-around, by-above-below, by-left-right}
use Rattle.texel.specs.Inner.{nine_of}
use Rattle.texel.proofs.weights.fill.Goals as goal

pub returns-in-Nothing : goal.returns-in-Nothing
returns-in-Nothing c =
    let a = c.args in
    (by-nothing (half a.nine.is2bpp) (nine_of a.nine.words.now) a.x a.y c.in-Nothing.is c.near.ensures.0, c.near.ensures.1)

pub returns-in-Around : goal.returns-in-Around
returns-in-Around c =
    let a = c.args in (
      by-around (half a.nine.is2bpp) (nine_of a.nine.words.now) a.x a.y c.in-Around.is
          c.near-in-Around.ensures.0 c.near-in-Around-2.ensures.0 c.near-in-Around-3.ensures.0 c.near-in-Around-4.ensures.0,
      omega arith,
    )

pub returns-in-AboveBelow : goal.returns-in-AboveBelow
returns-in-AboveBelow c =
    let a = c.args in (
      by-above-below (half a.nine.is2bpp) (nine_of a.nine.words.now) a.x a.y c.in-AboveBelow.is c.near-in-AboveBelow.ensures.0 c.near-in-AboveBelow-2.ensures.0,
      omega arith,
    )

pub returns-in-LeftRight : goal.returns-in-LeftRight
returns-in-LeftRight c =
    let a = c.args in (
      by-left-right (half a.nine.is2bpp) (nine_of a.nine.words.now) a.x a.y c.in-LeftRight.is c.near-in-LeftRight.ensures.0 c.near-in-LeftRight-2.ensures.0,
      omega arith,
    )
