-- `wording::sentence::Phrase+LINE::say_behind` meets its contract.
-- Assumes nothing.
use Rattle.wording.proofs.PhraseLaws.{more-more}
use Rattle.wording.proofs.sentence.Phrase+LINE.say_behind.Goals as goal
use mathlib.Core.List.{append_assoc}

pub returns : goal.returns
returns c = rw (c.say-2.ensures, c.say_number-runner.ensures, c.say.ensures) (simp more-more (simp append_assoc))
