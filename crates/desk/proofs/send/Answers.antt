-- `desk::send` meets its contract.
-- Assumes nothing.
use Rattle.answers.proofs.AreaLaws.{written_within}
use Rattle.desk.proofs.Turns.{sent}
use Rattle.desk.proofs.send.Goals as goal
use lib.Seq.{length-take-le}
use mathlib.Core.Path.{sym}
use native.Mathlib.Omega.{arith}

pub slice_bounds-bytes-end : goal.slice_bounds-bytes-end
slice_bounds-bytes-end c = omega (arith, written_within c.put_bytes-n.ensures)

pub slice_bounds-send-end : goal.slice_bounds-send-end
slice_bounds-send-end c = sym (length-take-le _ _ (omega (arith, written_within c.put_bytes-n.ensures)))

pub returns : goal.returns
returns c = sent _ c.args.hex.now (omega (arith, c.requires)) c.put_bytes-n.ensures c.send-done.ensures c.tell.ensures
