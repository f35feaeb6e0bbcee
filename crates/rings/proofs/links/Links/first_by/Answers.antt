-- `rings::links::Links::first_by` meets its contract. Assumes nothing.
use Rattle.std.proofs.Common.{arith}
use Rattle.rings.proofs.Looks.{first_no_queue}
use Rattle.rings.proofs.Units.{first_read}
use Rattle.rings.proofs.links.Links.first_by.Goals as goal

pub returns-then-q-HEADS : goal.returns-then-q-HEADS
returns-then-q-HEADS g c =
    let room = g.T.Member.nodes in
    λ prev. rw c.MEMBERS.ensures (first_read g.U.Unit.num c.args.next.now (omega arith) (omega arith) _ prev)

pub returns-else-q-HEADS : goal.returns-else-q-HEADS
returns-else-q-HEADS g c = λ prev. rw (c.of.ensures, c.MEMBERS-else-q-HEADS.ensures) (first_no_queue (omega arith))
