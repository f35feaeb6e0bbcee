-- `wording::row::Phrase+LINE::say_order` meets its contract.
-- Assumes nothing.
use Rattle.wording.proofs.PhraseLaws.{more-more}
use Rattle.wording.proofs.row.Phrase+LINE.say_order.Goals as goal
use borrow.Author.Rules.{rules}
use borrow.Author.Tests.{ne_eqb}

pub returns-in_default : goal.returns-in_default
returns-in_default c = rw (ne_eqb c.args.n 0 (search rules), c.say-in_default.ensures, c.say_number.ensures, more-more)
