-- `chains::walked::chained` meets its contract. Assumes nothing.
use Rattle.chains.proofs.Reading.{decided, undecided}
use Rattle.chains.proofs.walked.chained.Goals as goal
use borrow.Author.Rules.{rules}
use mathlib.Core.Path.{sym, ◌∙◌}

pub returns-then-eq : goal.returns-then-eq
returns-then-eq c = decided _ _ _ c.walks.result (search rules) c.walks.ensures (sym c.eq.ensures ∙ c.if-eq.true) c.told-need c.all_rest.result c.all_rest.ensures

pub returns-else-eq : goal.returns-else-eq
returns-else-eq c = rw c.if-eq.false (undecided _ _ _ c.walks.result (search rules) c.walks.ensures (sym c.eq.ensures ∙ c.if-eq.false))
