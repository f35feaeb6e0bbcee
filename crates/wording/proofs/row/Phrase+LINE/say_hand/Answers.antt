-- `wording::row::Phrase+LINE::say_hand` meets its contract.
-- Assumes nothing.
use Rattle.wording.proofs.PhraseLaws.{more-more}
use Rattle.wording.proofs.row.Phrase+LINE.say_hand.Goals as goal
use borrow.Author.Tests.{eq-eqb, ne_eqb}

pub returns-then-row-eq0 : goal.returns-then-row-eq0
returns-then-row-eq0 c = rw (eq-eqb c.args.row.full 0 c.if-row-eq0.true) c.say.ensures

pub returns : goal.returns
returns c = rw (ne_eqb c.args.row.full 0 c.if-row-eq0.false, c.say_bytes.ensures, c.say-2.ensures, more-more)
