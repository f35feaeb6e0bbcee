-- `rings::links::Links::join_rear` meets its contract. Assumes nothing.
use Rattle.std.proofs.Common.{refl, arith}
use Rattle.rings.proofs.Moves.{rear_no_queue, rear_no_member}
use Rattle.rings.proofs.Units.{rear_astray, rear_stored}
use Rattle.rings.proofs.links.Links.join_rear.Goals as goal
use Rattle.rings.proofs.links.Links.join_rear.Goals.{else-q-HEADS-via-then-q-HEADS+else-i-MEMBERS, else-q-HEADS-via-else-q-HEADS}

pub returns-then-l : goal.returns-then-l
returns-then-l g c =
    let t = c.args.self in
    let room = g.T.Member.nodes in
    let last = rw c.MEMBERS-then-i-MEMBERS.ensures at c.number-l.ensures in
    rw (last, c.number-i.ensures, c.MEMBERS-then-i-MEMBERS.ensures)
    (rear_stored g.T.Unit.num t.next t.prev (omega arith) (omega arith) (omega arith) _ c.args.p (omega arith) c.of.result (omega arith) _ refl (omega arith))

pub returns-else-l : goal.returns-else-l
returns-else-l g c =
    let t = c.args.self in
    let room = g.T.Member.nodes in
    let last = rw c.MEMBERS-then-i-MEMBERS.ensures at c.number-l.ensures in
    rear_astray g.T.Unit.num t.next t.prev (omega arith) (omega arith) (omega arith) c.index-self-h.result c.args.p (omega arith) (omega (arith, last))

pub returns-else-q-HEADS : goal.returns-else-q-HEADS
returns-else-q-HEADS g c = elim c.else-q-HEADS.branch [
  | else-q-HEADS-via-then-q-HEADS+else-i-MEMBERS w ↦ rear_no_member (omega arith) (omega arith)
  | else-q-HEADS-via-else-q-HEADS w ↦ rear_no_queue (omega arith)
]
