-- `wording::sentence::Phrase+LINE::say_ahead` meets its contract.
-- Assumes nothing.
use Rattle.wording.proofs.PhraseLaws.{more-more}
use Rattle.wording.proofs.sentence.Phrase+LINE.say_ahead.Goals as goal
use borrow.Author.Rules.{rules}
use borrow.Author.Tests.{ne_eqb}

pub returns-in_default : goal.returns-in_default
returns-in_default c = rw (ne_eqb c.args.n 0 (search rules), ne_eqb c.args.n 1 (search rules), c.say-in_default.ensures, c.say_number.ensures, more-more)
