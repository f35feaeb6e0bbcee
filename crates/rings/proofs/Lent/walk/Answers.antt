-- `rings::Lent::walk` meets its contract. The loop's invariant: what the rest of the walk gives from here, the whole gives from the head.
-- The measure is the number of entries without a mark. Assumes nothing.
use Prim.Native.Nat.{◌<◌}
use Rattle.rings.proofs.Walks.{fewer_blanks, walk_closes, walk_broken, walk_on}
use Rattle.rings.proofs.Lent.walk.Goals as goal
use Rattle.rings.specs.Walk.{tables, Goes}
use lib.ListN.{length-set}
use mathlib.Core.Bool.{true, false}
use native.Mathlib.Omega.{arith}

pub returns-then-alone : goal.returns-then-alone
returns-then-alone c =
    let e = rw c.if-alone.true at c.alone.ensures in
    walk_closes _ _ _ _ _ _ (record { to = e.0; back = e.1 })

pub returns-in-Closes : goal.returns-in-Closes
returns-in-Closes c =
    let l = c.loop-b in
    l.invariant.2 true l.at (walk_closes _ _ _ l.at l.a _ (rw c.in-Closes.is at c.advance.ensures))

pub returns-in-Broken : goal.returns-in-Broken
returns-in-Broken c =
    let l = c.loop-b in
    l.invariant.2 false l.at (walk_broken _ _ _ l.at l.a (rw c.in-Broken.is at c.advance.ensures))

pub loop-b-smaller : goal.loop-b-smaller
loop-b-smaller c =
    let goes : let x = c.args.self.now in Goes (tables x.next.now x.prev.now) x.members c.loop-b.at c.loop-b.a c.in-To.b = rw c.in-To.is at c.advance.ensures in
    let low : c.in-To.b < 32 = omega (arith, goes.member, c.args.self.now.sized.few) in
    let l = c.loop-b in
    fewer_blanks l.at _ _ (omega (arith, low, l.invariant.0)) goes.blank (omega arith)

pub loop-b-preserved : goal.loop-b-preserved
loop-b-preserved c =
    let goes : let x = c.args.self.now in Goes (tables x.next.now x.prev.now) x.members c.loop-b.at c.loop-b.a c.in-To.b = rw c.in-To.is at c.advance.ensures in
    let low : c.in-To.b < 32 = omega (arith, goes.member, c.args.self.now.sized.few) in
    let l = c.loop-b in (
      simp length-set l.invariant.0,
      omega (arith, goes.member, c.args.self.now.sized.inside),
      λ ok s w. l.invariant.2 ok s (walk_on _ _ _ l.at l.a _ _ goes (omega (arith, low, l.invariant.0)) (omega arith) ok s w),
    )
