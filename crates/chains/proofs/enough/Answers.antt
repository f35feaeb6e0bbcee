-- `chains::enough` meets its contract. Assumes nothing.
use Rattle.bits.specs.Word.{width}
use Rattle.chains.proofs.Bits.{ones-those}
use Rattle.chains.proofs.enough.Goals as goal
use borrow.Author.Rules.{rules}
use lib.Dec.{leb}
use mathlib.Core.Path.{ap}

pub returns : goal.returns
returns c = ap (leb c.args.n) (ones-those width c.args.free.0 (search rules))
