-- `convert::put_refused` meets its contract: a number below 10 has one digit, any other below 100 has two. Assumes nothing.
use Rattle.convert.proofs.Layouts.{one-digit, two_digits, is-laid}
use Rattle.convert.proofs.put_refused.Goals as goal

pub returns-then-n-lt10 : goal.returns-then-n-lt10
returns-then-n-lt10 c = is-laid (one-digit _ c.if-n-lt10.true) c.put.ensures

pub returns : goal.returns
returns c = is-laid (two_digits _ c.if-n-lt10.false) c.put-2.ensures
