-- `stock::buffer_fits` meets its contract. Assumes nothing.
use Rattle.plain.specs.Sizes.{longest}
use Rattle.stock.proofs.buffer_fits.Goals as goal
use borrow.Author.Rules.{rules}

pub returns : goal.returns
unfolding longest
returns c = search rules
