-- `rings::links::Links::at_least` meets its contract. The invariant: what is left of the walk tells what the whole walk tells. Assumes nothing.
use Rattle.std.proofs.Common.{◌≡◌, ◌-◌, List, ℕ}
use Rattle.rings.specs.Moves.{first, reaches}
use Rattle.rings.specs.Walk.{tables}
use Rattle.rings.proofs.links.Links.at_least.Given as goal

abbrev pub invariant-loop : goal.invariant-loop
invariant-loop g l =
    let n = g.T.Member.MEMBERS in
    (prev : List ℕ) → reaches n (tables l.next prev) (first n g.T.Member.HEADS (tables l.next prev) l.q) l.n ≡ reaches n (tables l.next prev) l.p (l.n - l.counter)
