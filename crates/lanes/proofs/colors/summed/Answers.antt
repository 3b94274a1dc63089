-- `lanes::colors::summed` meets its contract: its rows are the words by their shares. Assumes nothing.
use Rattle.lanes.proofs.Reading.{summed-is}
use Rattle.lanes.proofs.colors.summed.Goals as goal

pub returns : goal.returns
returns c =
    let a = c.args in
    let u = c.colors_at-above.ensures.is in
    let o = c.colors_at-own.ensures.is in
    let e = c.colors_at-below.ensures.is in
    summed-is a.order a.d.now a.at.above a.at.own a.at.below u.0 o.0 e.0 u.1 o.1 e.1 c.downwards.ensures c.downwards-2.ensures
