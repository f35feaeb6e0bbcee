-- `chains::behind` meets its contract. Assumes nothing.
use Rattle.chains.proofs.Turns.{any_first}
use Rattle.chains.proofs.behind.Goals as goal
use mathlib.Core.Path.{sym, ◌∙◌}

pub returns-then-any : goal.returns-then-any
returns-then-any c =
    let a = c.args in
    c.lowest_of.ensures ∙ any_first a.s a.left (sym c.any.ensures ∙ c.if-any.true) a.b.0
