-- `wording::sentence::Phrase+LINE::say_waits` meets its contract.
-- Assumes nothing.
use Rattle.wording.proofs.PhraseLaws.{more-more}
use Rattle.wording.proofs.sentence.Phrase+LINE.say_waits.Goals as goal
use mathlib.Core.List.{append_assoc}

pub returns : goal.returns
returns c = rw (c.say_ahead.ensures, c.say-3.ensures, c.say_number.ensures, c.say-place.ensures, c.say-2.ensures, c.say.ensures) (simp more-more (simp append_assoc))
