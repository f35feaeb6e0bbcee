-- `rings::links::Links::at_least` meets its contract. The invariant: what is left of the walk tells what the whole walk tells. Assumes nothing.
use Rattle.std.proofs.Common.{◌≡◌, ◌+◌, ◌-◌, arith}
use Rattle.std.proofs.lemmas.List.{map-id}
use Rattle.rings.proofs.Looks.{reaches-on, reaches_end, reaches-done, says_too_many, says_walked}
use Rattle.rings.specs.Walk.{tables}
use Rattle.rings.proofs.links.Links.at_least.Goals as goal

pub returns-then-MEMBERS-n : goal.returns-then-MEMBERS-n
returns-then-MEMBERS-n g c = λ prev. says_too_many (omega arith)

pub loop-init : goal.loop-init
loop-init g c =
    let e : c.args.n - 0 ≡ c.args.n = omega arith in
    λ prev.
    let first = rw (map-id c.args.next.now) at (c.first_by-p.ensures prev).whole in
    rw (first, e)

pub returns-then-MEMBERS-p : goal.returns-then-MEMBERS-p
returns-then-MEMBERS-p g c =
    λ prev. says_walked (omega arith) (rw (c.loop.invariant prev) (reaches_end _ _ _ _ (omega arith) (omega arith)))

pub loop-preserved : goal.loop-preserved
loop-preserved g c =
    let e : c.args.n - c.loop.counter - 1 ≡ c.args.n - (c.loop.counter + 1) = omega arith in
    λ prev. rw (c.loop.invariant prev, reaches-on g.T.Member.MEMBERS (tables c.args.next.now prev) c.loop.p (c.args.n - c.loop.counter) (omega arith) (omega arith), e)

pub returns : goal.returns
returns g c =
    λ prev. says_walked (omega arith) (rw (c.loop.invariant prev) (reaches-done _ _ _ _ (omega arith)))
