-- `texel::texel_in` meets its contract: the first of one texel. Assumes nothing.
use Rattle.texel.proofs.Across.{first-texel}
use Rattle.texel.proofs.texel_in.Goals as goal

pub returns : goal.returns
returns c =
    let a = c.args in
    first-texel a.order a.is2bpp a.nine a.px a.py _ c.texels_in.ensures
