-- `pvrtc::plain::applicate_color` meets its contract. The loop keeps that the first i texels are in the buffer. Assumes nothing.
use Rattle.std.proofs.Common.{◌≡◌, ℕ, ◌*◌, ◌≤◌, List, ◌++◌, length, take, drop, replicate, ap, ◌∙◌, arith, length-take-le}
use Rattle.facts.proofs.Tab.{filled_none, filled_more, filled-end}
use Rattle.texel.proofs.Shares.{half_high}
use Rattle.pvrtc.specs.Inner.{block_texel, block_words}
use Rattle.pvrtc.proofs.plain.applicate_color.Goals as goal

pub loop-i-init : goal.loop-i-init
loop-i-init c = filled_none _ _

pub loop-i-preserved : goal.loop-i-preserved
loop-i-preserved c =
    let a = c.args in
    let word : c.texel_in.result ≡ block_texel a.order a.is2bpp a.nine c.loop-i.i = c.texel_in.ensures ∙ rw c.block_width-width.ensures in
    filled_more c.loop-i.invariant word (omega arith)

pub returns : goal.returns
unfolding block_words
returns c =
    let n : ℕ = 4 * c.block_width-width.result in
    let few : n ≤ 32 = omega (arith, c.block_width-width.ensures, half_high c.args.is2bpp) in
    let zeros : List ℕ = replicate 32 0 in
    let all : length (take n zeros) ≡ n = length-take-le n zeros few in
    ap (λ (l : List ℕ). l ++ drop n zeros) (filled-end n c.loop-i.invariant (omega arith) all)
    ∙ rw c.block_width-width.ensures
