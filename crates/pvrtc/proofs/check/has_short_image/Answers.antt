-- `pvrtc::check::has_short_image` meets its contract, call by call. Assumes nothing.
use Rattle.pvrtc.specs.Refusals.{short_image}
use Rattle.pvrtc.proofs.check.has_short_image.Goals as goal

pub returns-in-Texel : goal.returns-in-Texel
unfolding short_image
returns-in-Texel c = rw c.in-Texel.is

pub returns-in-Row : goal.returns-in-Row
unfolding short_image
returns-in-Row c = rw c.in-Row.is

pub returns-in-Block : goal.returns-in-Block
unfolding short_image
returns-in-Block c = rw c.in-Block.is
