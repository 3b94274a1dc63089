-- `convert::put_tga` meets its contract: the words' bytes stand behind the header. Assumes nothing.
use Rattle.std.proofs.Common.{refl, arith}
use Rattle.convert.proofs.Layouts.{tga-laid}
use Rattle.convert.proofs.put_tga.Goals as goal

pub returns : goal.returns
returns c =
    let a = c.args in
    tga-laid a.w a.h a.words.now _ (omega arith) (omega arith) refl c.put_tga_header.ensures c.put_words.ensures
