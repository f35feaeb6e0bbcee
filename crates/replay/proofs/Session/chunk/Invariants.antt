-- The loop's invariant is the contract of `replay::Session::chunk`, for the bytes that are handed over so far. The measure is how many are left.
-- Assumes nothing.
use Rattle.std.proofs.Common.{length}
use Rattle.replay.proofs.Handing.{Front}
use Rattle.replay.proofs.Session.chunk.Given as goal

abbrev pub invariant-loop-rest : goal.invariant-loop-rest
invariant-loop-rest g l = Front l.fn.self l.fn.bytes l.rest l.self

abbrev pub decreases-loop-rest : goal.decreases-loop-rest
decreases-loop-rest g l = length l.rest
