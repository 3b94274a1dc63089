-- `samples::set_u32` meets its contract. The loop keeps that the first k bytes of the number are put. Assumes nothing.
use Rattle.std.proofs.Common.{◌≡◌, ℕ, List, get_or, ap, ◌∙◌, arith}
use Rattle.files.specs.Fields.{byte_of}
use Rattle.files.proofs.Fields.{bytes-written}
use Rattle.samples.proofs.Laws.{placed, placed_none, placed_more, placed_all}
use Rattle.samples.proofs.set_u32.Goals as goal

pub loop-k-init : goal.loop-k-init
loop-k-init c = placed_none _ _ _

pub loop-k-preserved : goal.loop-k-preserved
loop-k-preserved c =
    let a = c.args in
    let byte : get_or c.to_le_bytes.result c.loop-k.k 0 ≡ byte_of a.v c.loop-k.k =
    ap (λ (l : List ℕ). get_or l c.loop-k.k 0) c.to_le_bytes.ensures ∙ bytes-written a.v c.loop-k.k (omega arith) in
    cc (c.set_byte.ensures, byte, c.loop-k.invariant, placed_more a.at a.v a.bytes.now c.loop-k.k)

pub returns : goal.returns
returns c =
    let a = c.args in
    let all : c.loop-k.k ≡ 4 = omega arith in
    c.loop-k.invariant ∙ ap (placed a.at a.v a.bytes.now) all ∙ placed_all a.at a.v a.bytes.now
