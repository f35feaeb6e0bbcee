-- `rings::Lent::sweep` meets its contract. The loop's invariant: the rings of the queues below q are walked.
-- Assumes nothing.
use Rattle.lists.specs.Lists.{put}
use Rattle.rings.proofs.Walks.{walked_none, walked_on, walked_broken}
use Rattle.rings.proofs.Lent.sweep.Goals as goal
use mathlib.Core.List.{[]}

pub loop-q-init : goal.loop-q-init
loop-q-init c = (λ q. [], walked_none _ _)

pub returns-then-not-walk : goal.returns-then-not-walk
returns-then-not-walk c = λ f R.
    let l = c.loop-q in
    walked_broken _ _ l.q l.invariant.0 l.at l.invariant.1 _ f R c.loop-q-test.true c.if-not-walk.ensures

pub loop-q-preserved : goal.loop-q-preserved
loop-q-preserved c =
    let l = c.loop-q in
    let r = c.if-not-walk.ensures in
    (put l.invariant.0 l.q r.0, walked_on _ _ l.q l.invariant.0 l.at l.invariant.1 r.0 _ r.1 r.2)
