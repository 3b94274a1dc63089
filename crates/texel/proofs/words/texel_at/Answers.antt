-- `texel::words::texel_at` meets its contract: `Needed` has that the words with a share give the texel. Assumes nothing.
use Rattle.texel.proofs.Needed.{needed-read, texel-needed, place}
use Rattle.texel.proofs.words.texel_at.Goals as goal

pub texel_in-requires : goal.texel_in-requires
texel_in-requires c =
    let a = c.args in
    (place a.w.grid.is2bpp a.x a.y c.block_width-width.ensures, rw c.needed_words-nine.ensures (needed-read a.w.grid a.w.bytes.now _ _ _ _))

pub returns : goal.returns
returns c =
    let a = c.args in
    texel-needed a.order a.w.grid a.w.bytes.now a.x a.y c.block_width-width.ensures c.shares_across.ensures c.shares_down.ensures
    c.needed_words-nine.ensures c.texel_in.ensures
