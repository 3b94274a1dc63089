-- `texel::rows::texels_in` meets its contract. The loop keeps that the first i texels are stored. Assumes nothing.
use Rattle.std.proofs.Common.{◌≡◌, ap, ◌∙◌, List, ◌++◌, ℕ, arith, length, take, drop, length-take-le}
use Rattle.facts.proofs.Tab.{filled_none, filled_more, filled-end}
use Rattle.texel.proofs.Across.{window-low, with-texels}
use Rattle.texel.proofs.rows.texels_in.Goals as goal

pub loop-i-init : goal.loop-i-init
loop-i-init c = filled_none _ _

pub texel_by-requires : goal.texel_by-requires
texel_by-requires c =
    let p = c.requires in
    let all : length (take c.args.count c.args.texels.now) ≡ c.args.count = length-take-le c.args.count c.args.texels.now p.3 in (
      record { across = omega arith; down = p.1 },
      rw (c.sum_down-window.ensures, c.shares_down.ensures) (window-low c.args.nine c.args.py p.2.small p.1),
    )

pub loop-i-preserved : goal.loop-i-preserved
loop-i-preserved c = filled_more c.loop-i.invariant c.texel_by.ensures (omega arith)

pub returns : goal.returns
returns c =
    let a = c.args in
    let all : length (take a.count a.texels.now) ≡ a.count = length-take-le a.count a.texels.now c.requires.3 in
    ap (λ (l : List ℕ). l ++ drop a.count a.texels.now) (filled-end a.count c.loop-i.invariant (omega arith) all)
    ∙ with-texels a.order a.is2bpp a.nine a.px a.py a.count a.texels.now c.shares_down.ensures c.sum_down-window.ensures
