-- `replay::Session::chunk` meets its contract: each call of `feed` takes a piece more, and what was taken is told where a write fails.
-- Assumes nothing.
use Rattle.std.proofs.Common.{arith, refl, length-drop}
use lib.Seq.{take_all}
use borrow.Author.Tests.{true-eqb}
use Rattle.replay.proofs.Handing.{at_front, further, all_handed, unwritten, on_err}
use Rattle.replay.proofs.Session.chunk.Goals as goal

pub loop-rest-init : goal.loop-rest-init
loop-rest-init g c = at_front c.args.self.now c.args.bytes.now

pub returns-in_err-write_all-clause-err : goal.returns-in_err-write_all-clause-err
returns-in_err-write_all-clause-err g c = on_err c.from_residual.result (unwritten (further c.feed-f.result c.loop-rest.invariant c.feed-f.ensures.feeds refl refl))

pub loop-rest-preserved : goal.loop-rest-preserved
loop-rest-preserved g c = further c.feed-f.result c.loop-rest.invariant c.feed-f.ensures.feeds refl (take_all _ _ (rw length-drop (omega arith)))

pub returns-clause-ok : goal.returns-clause-ok
returns-clause-ok g c = all_handed c.loop-rest.invariant (true-eqb _ 0 c.loop-rest-test.ensures)
