-- `wording::sentence::Phrase+LINE::say_class` meets its contract.
-- Assumes nothing.
use Rattle.wording.proofs.PhraseLaws.{more-more}
use Rattle.wording.proofs.sentence.Phrase+LINE.say_class.Goals as goal
use borrow.Author.Rules.{rules}
use borrow.Author.Tests.{ne_eqb}
use mathlib.Core.List.{append_assoc}

pub returns-in_default : goal.returns-in_default
returns-in_default c = rw (ne_eqb c.args.n 1 (search rules), c.say-in_default-2.ensures, c.say_number-many.ensures, c.say-in_default.ensures) (simp more-more (simp append_assoc))
