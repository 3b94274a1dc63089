-- `texel::weights::near` meets its contract: the block and its texel are where the nine blocks have the place. Assumes nothing.
use Rattle.texel.proofs.Made.{near-is, in-nine, in-block}
use Rattle.texel.proofs.weights.near.Goals as goal

pub returns : goal.returns
returns c =
    let a = c.args in
    let two = a.nine.is2bpp in
    let at = c.across-bx.ensures in
    let w = c.block_width.ensures in
    (near-is two a.nine.words.now a.x a.y w at.0 at.1, a.nine.read.low _ _ (in-nine two a.x a.y c.requires at.0) (in-block two a.x a.y w at.1))
