-- `rings::standing` meets its contract.
-- Assumes nothing.
use Rattle.rings.proofs.Decisions.{decides_then_some}
use Rattle.rings.proofs.Walks.{walked_settled, walked_unsettled}
use Rattle.rings.proofs.standing.Goals as goal
use Rattle.rings.specs.Walk.{Decision, Sized}
use mathlib.Core.Path.{refl}
use native.Mathlib.Omega.{arith}

pub returns-in_err-at : goal.returns-in_err-at
returns-in_err-at c =
    let e = c.in_ok-lent.ensures in
    rw c.from_residual-in_err-at.ensures (λ f h. (rw (e.0, e.1, e.2) at c.in_err-at.ensures) f h.rings)

pub returns : goal.returns
returns c =
    let a = c.args in
    let e = c.in_ok-lent.ensures in
    let w = rw (e.0, e.1, e.2) at c.in_ok-at.ensures in
    let z : Sized a.members a.next.now a.prev.now = rw (e.0, e.1, e.2) at c.in_ok-lent.lent.sized in
    rw c.then_some.ensures (decides_then_some (Decision a.members a.next.now a.prev.now) c.all_settled.result c.in_ok-at.at
    (λ s. (w.0, record { sized = z; rings = walked_settled _ _ _ w.0 c.in_ok-at.at w.1 (omega (arith, z.inside)) (omega (arith, z.even, z.inside)) s }, w.1.stand))
    (λ u f h. walked_unsettled _ _ _ w.0 c.in_ok-at.at w.1 _ f h.rings refl u)
    (rw (e.0, e.1, e.2) at c.all_settled.ensures))
