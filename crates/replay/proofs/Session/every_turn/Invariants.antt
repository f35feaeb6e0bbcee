-- The loop's invariant is the contract of `replay::Session::every_turn`, for the bytes read so far.
-- Assumes nothing.
use Rattle.replay.specs.Replays.{Runs}
use Rattle.replay.proofs.Session.every_turn.Given as goal

abbrev pub invariant-loop : goal.invariant-loop
invariant-loop g l = Runs l.fn.self l.self
