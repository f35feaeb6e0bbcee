-- `replay::Session::turn` meets its contract: where a read fails, nothing was taken.
-- Assumes nothing.
use Rattle.replay.proofs.Handing.{unread, on_err}
use Rattle.replay.proofs.Session.turn.Goals as goal

pub returns-in_err-got-clause-err : goal.returns-in_err-got-clause-err
returns-in_err-got-clause-err g c = on_err c.from_residual.result (unread c.read.new.buf)
