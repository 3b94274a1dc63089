-- `pvrtc::check::has_short_data` meets its contract: sides that are not large have few enough blocks. Assumes nothing.
use Rattle.pvrtc.proofs.Accepted.{few-across, few-down}
use Rattle.pvrtc.proofs.check.has_short_data.Goals as goal

pub need_of-requires : goal.need_of-requires
need_of-requires c =
    rw c.grid_of.ensures (few-across c.args.p c.requires, few-down c.args.p c.requires)
