-- `replay::Session::every_turn` meets its contract, read by read.
-- Assumes nothing.
use Rattle.replay.proofs.Handing.{begun, replayed, broken_replay, on_err}
use Rattle.replay.proofs.Session.every_turn.Goals as goal

pub loop-init : goal.loop-init
loop-init g c = begun c.requires

pub returns-in_err-got-clause-err : goal.returns-in_err-got-clause-err
returns-in_err-got-clause-err g c = on_err c.from_residual.result (broken_replay c.loop.invariant c.in_err-got.ensures.err)

pub loop-preserved : goal.loop-preserved
loop-preserved g c = replayed c.loop.invariant c.in_ok-got.ensures.ok

pub returns-then-got-eq0-clause-ok : goal.returns-then-got-eq0-clause-ok
returns-then-got-eq0-clause-ok g c = replayed c.loop.invariant c.in_ok-got.ensures.ok
