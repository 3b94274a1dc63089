-- `texel::rows::texels_in` meets its contract. The loop keeps that the first i texels are stored. Assumes nothing.
use Rattle.std.proofs.Common.{◌+◌}
use Rattle.facts.proofs.Tab.{Filled}
use Rattle.grid.specs.Grid.{half}
use Rattle.texel.specs.Inner.{nine_of}
use Rattle.texel.specs.Summed.{texel_by}
use Rattle.pixel.specs.Pixel.{packed}
use Rattle.texel.proofs.rows.texels_in.Given as goal

abbrev pub invariant-loop-i : goal.invariant-loop-i
invariant-loop-i l =
    Filled (λ i'. packed l.order (texel_by (half l.nine.is2bpp) (nine_of l.nine.words.now) l.window (l.px + i') l.py)) l.initial.texel-items l.i l.texel-items
