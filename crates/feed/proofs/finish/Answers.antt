-- `feed::finish` meets its contract.
-- Assumes nothing.
use Rattle.feed.proofs.Ending.{blank, some_held, no_line, no_room-left, last_line}
use Rattle.feed.proofs.finish.Goals as goal

pub returns-then-eq : goal.returns-then-eq
returns-then-eq c = λ p h. no_line p (rw (blank c.args.o.held c.if-eq.ensures) at h)

pub returns-then-out-le-LONGEST_TEXT : goal.returns-then-out-le-LONGEST_TEXT
returns-then-out-le-LONGEST_TEXT c = λ p h. no_room-left c.if-out-le-LONGEST_TEXT.true

pub returns : goal.returns
returns c = λ p h. last_line p (some_held c.if-eq.ensures) c.if-out-le-LONGEST_TEXT.false h (c.answer.ensures.answered p h)
