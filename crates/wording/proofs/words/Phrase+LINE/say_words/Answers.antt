-- `wording::words::Phrase+LINE::say_words` meets its contract.
-- Assumes nothing.
use Rattle.wording.proofs.PhraseLaws.{more-more}
use Rattle.wording.proofs.words.Phrase+LINE.say_words.Goals as goal
use Rattle.wording.specs.Words.{words}
use native.Mathlib.Omega.{arith}

pub returns-in-Unused : goal.returns-in-Unused
unfolding words
returns-in-Unused c = rw c.in-Unused.is (c.say.ensures, omega arith)

pub returns-in-Running : goal.returns-in-Running
unfolding words
returns-in-Running c = rw c.in-Running.is (c.say-in-Running.ensures, omega arith)

pub returns-in-Ready : goal.returns-in-Ready
unfolding words
returns-in-Ready c = rw c.in-Ready.is (rw (c.say_number.ensures, c.say-in-Ready.ensures, more-more), omega arith)

pub returns-in-Mailbox : goal.returns-in-Mailbox
unfolding words
returns-in-Mailbox c = rw c.in-Mailbox.is (c.say_place.ensures, omega arith)

pub returns-in-Semaphore : goal.returns-in-Semaphore
unfolding words
returns-in-Semaphore c = rw c.in-Semaphore.is (c.say_place-in-Semaphore.ensures, omega arith)

pub returns-in-Behind : goal.returns-in-Behind
unfolding words
returns-in-Behind c = rw c.in-Behind.is (rw (c.say_number-in-Behind.ensures, c.say-in-Behind.ensures, more-more), omega arith)
