-- `texel::interpolate_color` meets its contract, by the definition of the blend. Assumes nothing.
use Rattle.std.proofs.Common.{rules}
use Rattle.texel.specs.Texel.{blended}
use Rattle.texel.proofs.interpolate_color.Goals as goal

pub returns : goal.returns
unfolding blended
returns c = search rules
