-- `texel::texel_by` meets its contract: `Made` puts the parts together. Assumes nothing.
use Rattle.texel.specs.Inner.{nine_of}
use Rattle.texel.proofs.Across.{low-across}
use Rattle.texel.proofs.Made.{texel}
use Rattle.texel.proofs.texel_by.Goals as goal

pub scale-a-requires : goal.scale-a-requires
scale-a-requires c =
    low-across c.args.nine.is2bpp c.args.px c.args.window.a c.requires.0.across c.requires.1.a c.shares_across-row.ensures c.sum_across.ensures

pub scale-b-requires : goal.scale-b-requires
scale-b-requires c =
    low-across c.args.nine.is2bpp c.args.px c.args.window.b c.requires.0.across c.requires.1.b c.shares_across-row.ensures c.sum_across-2.ensures

pub returns : goal.returns
returns c =
    let a = c.args in
    texel a.order a.nine.is2bpp (nine_of a.nine.words.now) a.window a.px a.py c.shares_across-row.ensures c.sum_across.ensures
    c.scale-a.ensures.0 c.sum_across-2.ensures c.scale-b.ensures.0 c.weight_at-w.ensures.value c.punched-is_punched.ensures c.mix.ensures
