-- `texel::summing::shares_across` meets its contract, by the depth. Assumes nothing.
use Rattle.std.proofs.Common.{◌∙◌, true, ◌<◌}
use Rattle.grid.specs.Grid.{block_width}
use Rattle.texel.proofs.Across.{wide-is, row_at}
use Rattle.texel.proofs.summing.shares_across.Goals as goal

pub returns-then-is2bpp : goal.returns-then-is2bpp
returns-then-is2bpp c =
    let l : c.args.px < block_width true = rw c.if-is2bpp.true at c.requires in
    row_at 4 c.args.px wide-is l ∙ rw c.if-is2bpp.true
