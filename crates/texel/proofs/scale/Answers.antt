-- `texel::scale` meets its contract: `Blend` has document 01's formulas and their bounds. Assumes nothing.
use Rattle.texel.proofs.Blend.{scaled-by}
use Rattle.texel.proofs.scale.Goals as goal

pub returns : goal.returns
returns c =
    scaled-by c.args.is2bpp c.args.s c.requires c.from-shift.ensures c.to_byte.ensures c.to_byte-2.ensures c.to_byte-3.ensures c.to_byte-4.ensures
