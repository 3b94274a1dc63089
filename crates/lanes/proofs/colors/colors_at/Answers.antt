-- `lanes::colors::colors_at` meets its contract: the bytes of either colour are the word's, and a lane holds at most 31. Assumes nothing.
use Rattle.lanes.proofs.Reading.{a-is, b-is}
use Rattle.lanes.proofs.colors.colors_at.Goals as goal

pub returns : goal.returns
returns c =
    let args = c.args in
    let a = a-is args.order args.d.now args.z c.half.ensures c.lane_a.ensures in
    let b = b-is args.order args.d.now args.z c.half-2.ensures c.lane_b.ensures in
    record { is = (a.0, b.0); small = (a.1, b.1) }
