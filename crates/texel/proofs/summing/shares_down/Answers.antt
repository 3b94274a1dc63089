-- `texel::summing::shares_down` meets its contract: a row of the table. Assumes nothing.
use Rattle.texel.proofs.Across.{narrow-is, row_at}
use Rattle.texel.proofs.summing.shares_down.Goals as goal

pub returns : goal.returns
returns c = row_at 2 c.args.py narrow-is c.requires
