-- `rings::links::Links::join_front` meets its contract. Assumes nothing.
use Rattle.std.proofs.Common.{refl, arith}
use Rattle.rings.proofs.Moves.{front_no_queue, front_no_member}
use Rattle.rings.proofs.Units.{front_astray, front_stored}
use Rattle.rings.proofs.links.Links.join_front.Goals as goal
use Rattle.rings.proofs.links.Links.join_front.Goals.{else-q-HEADS-via-then-q-HEADS+else-i-MEMBERS, else-q-HEADS-via-else-q-HEADS}

pub returns-then-f : goal.returns-then-f
returns-then-f g c =
    let t = c.args.self in
    let room = g.T.Member.nodes in
    let first = rw c.MEMBERS-then-i-MEMBERS.ensures at c.number-f.ensures in
    rw (first, c.number-i.ensures, c.MEMBERS-then-i-MEMBERS.ensures)
    (front_stored g.T.Unit.num t.next t.prev (omega arith) (omega arith) (omega arith) _ c.args.p (omega arith) c.of.result (omega arith) _ refl (omega arith))

pub returns-else-f : goal.returns-else-f
returns-else-f g c =
    let t = c.args.self in
    let room = g.T.Member.nodes in
    let first = rw c.MEMBERS-then-i-MEMBERS.ensures at c.number-f.ensures in
    front_astray g.T.Unit.num t.next t.prev (omega arith) (omega arith) (omega arith) c.index-self-h.result c.args.p (omega arith) (omega (arith, first))

pub returns-else-q-HEADS : goal.returns-else-q-HEADS
returns-else-q-HEADS g c = elim c.else-q-HEADS.branch [
  | else-q-HEADS-via-then-q-HEADS+else-i-MEMBERS w ↦ front_no_member (omega arith) (omega arith)
  | else-q-HEADS-via-else-q-HEADS w ↦ front_no_queue (omega arith)
]
