-- `wording::words::Phrase+LINE::say_place` meets its contract.
-- Assumes nothing.
use Rattle.wording.proofs.PhraseLaws.{more-more}
use Rattle.wording.proofs.words.Phrase+LINE.say_place.Goals as goal
use mathlib.Core.List.{append_assoc}

pub returns : goal.returns
returns c = rw (c.say_number.ensures, c.say-3.ensures, c.say_number-named.ensures, c.say-2.ensures, c.say.ensures) (simp more-more (simp append_assoc))
