-- `rings::links::Links::leave` meets its contract. Assumes nothing.
use Rattle.std.proofs.Common.{refl, arith}
use Rattle.rings.proofs.Moves.{left_no_member}
use Rattle.rings.proofs.Units.{left_astray_before, left_astray_behind, left_stored}
use Rattle.rings.proofs.links.Links.leave.Goals as goal
use Rattle.rings.proofs.links.Links.leave.Goals.{else-a-via-then-a+else-b, else-a-via-else-a}

pub returns-then-b : goal.returns-then-b
returns-then-b g c =
    let t = c.args.self in
    let room = g.T.Member.nodes in
    let before = rw c.number-i.ensures at c.number-a.ensures in
    let behind = rw c.number-i.ensures at c.number-b.ensures in
    rw (before, behind, c.number-i.ensures)
    (left_stored g.T.Unit.num t.next t.prev (omega arith) (omega arith) c.args.p (omega arith) _ _ _ _ refl refl (omega arith) (omega arith))

pub returns-else-a : goal.returns-else-a
returns-else-a g c =
    let t = c.args.self in
    let room = g.T.Member.nodes in
    let before = rw c.number-i.ensures at c.number-a.ensures in
    let behind = rw c.number-i.ensures at c.number-b.ensures in
    elim c.else-a.branch [
      | else-a-via-then-a+else-b w ↦ left_astray_behind g.T.Unit.num t.next t.prev (omega arith) (omega arith) c.args.p (omega arith) c.index-self-i.result c.index-self-i-then-i-MEMBERS.result _ _ refl refl (omega (arith, before)) (omega (arith, behind))
      | else-a-via-else-a w ↦ left_astray_before g.T.Unit.num t.next t.prev (omega arith) (omega arith) c.args.p (omega arith) c.index-self-i.result (omega (arith, before))
    ]

pub returns-else-i-MEMBERS : goal.returns-else-i-MEMBERS
returns-else-i-MEMBERS g c = left_no_member (omega arith)
