-- `chains::any` meets its contract. Assumes nothing.
use Rattle.chains.proofs.Turns.{any_is}
use Rattle.chains.proofs.any.Goals as goal

pub returns-then-left-ne0 : goal.returns-then-left-ne0
returns-then-left-ne0 c = any_is c.args.s c.args.left c.ranges.s.fits c.if-left-ne0.true
