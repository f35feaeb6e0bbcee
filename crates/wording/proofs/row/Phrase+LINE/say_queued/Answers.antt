-- `wording::row::Phrase+LINE::say_queued` meets its contract.
-- Assumes nothing.
use Rattle.wording.proofs.PhraseLaws.{more-more}
use Rattle.wording.proofs.row.Phrase+LINE.say_queued.Goals as goal
use mathlib.Core.List.{append_assoc}

pub returns : goal.returns
returns c = rw (c.say_order.ensures, c.say-2.ensures, c.say_number-named.ensures, c.say.ensures) (simp more-more (simp append_assoc))
