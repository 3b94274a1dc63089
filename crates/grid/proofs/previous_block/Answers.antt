-- `grid::previous_block` meets its contract: `Torus` has why the machine's wrap does no harm. Assumes nothing.
use Rattle.std.proofs.Common.{◌≤◌, arith}
use Rattle.facts.proofs.Powers.{pow-le-cancel}
use Rattle.grid.specs.Grid.{log2}
use Rattle.grid.proofs.Torus.{wraps-back}
use Rattle.grid.proofs.previous_block.Goals as goal

pub returns : goal.returns
returns c =
    let side = c.args.side in
    let few : log2 side ≤ 64 = pow-le-cancel {b = 64} (omega arith) in
    wraps-back (log2 side) side c.requires few _ _ (omega arith)
