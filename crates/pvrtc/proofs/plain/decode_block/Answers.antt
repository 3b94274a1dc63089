-- `pvrtc::plain::decode_block` meets its contract: `InPicture` has that the buffer laid is the block laid. Assumes nothing.
use Rattle.pvrtc.proofs.InPicture.{buffer-laid}
use Rattle.texel.proofs.Nine.{read}
use Rattle.pvrtc.proofs.plain.decode_block.Goals as goal

pub applicate_color-buffer-requires : goal.applicate_color-buffer-requires
applicate_color-buffer-requires c =
    let a = c.args in
    rw c.nine_words-nine.ensures (read a.w.grid a.w.bytes.now a.bx a.by)

pub returns : goal.returns
returns c =
    let a = c.args in
    let part = c.requires.fits in
    buffer-laid a.order a.w.grid a.w.bytes.now a.bx a.by a.part a.image.now part.0 part.1 part.2
    c.block_width.ensures
    c.nine_words-nine.ensures
    c.applicate_color-buffer.ensures
    c.copy_block_buffer.ensures
