-- `wording::sentence::Phrase+LINE::say_about` meets its contract.
-- Assumes nothing.
use Rattle.wording.proofs.sentence.Phrase+LINE.say_about.Goals as goal
use native.Mathlib.Omega.{arith}

pub returns-in-Unused : goal.returns-in-Unused
returns-in-Unused c = rw c.in-Unused.is (c.say.ensures, omega arith)

pub returns-in-Running : goal.returns-in-Running
returns-in-Running c = rw c.in-Running.is (c.say-in-Running.ensures, omega arith)

pub returns-in-Ready : goal.returns-in-Ready
returns-in-Ready c = rw c.in-Ready.is (c.say_class.ensures, omega arith)

pub returns-in-Mailbox : goal.returns-in-Mailbox
returns-in-Mailbox c = rw c.in-Mailbox.is (c.say_waits.ensures, omega arith)

pub returns-in-Semaphore : goal.returns-in-Semaphore
returns-in-Semaphore c = rw c.in-Semaphore.is (c.say_waits-in-Semaphore.ensures, omega arith)

pub returns-in-Behind : goal.returns-in-Behind
returns-in-Behind c = rw c.in-Behind.is (c.say_behind.ensures, omega arith)
