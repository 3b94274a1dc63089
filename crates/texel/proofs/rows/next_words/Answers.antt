-- `texel::rows::next_words` meets its contract: two columns move, and a third is read. Assumes nothing.
use Rattle.texel.proofs.Needed.{slid-to}
use Rattle.texel.proofs.rows.next_words.Goals as goal

pub returns : goal.returns
returns c =
    let a = c.args in
    slid-to a.w.grid a.w.bytes.now a.bx a.by a.py a.nine c.shares_down-down.ensures c.word_if-above.ensures c.word_if-beside.ensures c.word_if-below.ensures
