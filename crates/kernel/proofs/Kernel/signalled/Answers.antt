-- `kernel::Kernel::signalled` meets its contract. Assumes nothing.
use Rattle.counts.specs.Counts.{signalled}
use Rattle.kernel.proofs.Kernel.signalled.Goals as goal
use Rattle.procs.proofs.Ways.{wake_none}
use Rattle.procs.specs.Stands.{numbers}
use borrow.Author.Tests.{lt-ltb, le-ltb}
use mathlib.Core.Path.{refl}

pub returns-then-first-lt-PROCESSES : goal.returns-then-first-lt-PROCESSES
unfolding signalled
returns-then-first-lt-PROCESSES c =
    let q = c.waiters_at_semaphore-q.ensures in
    let first = rw q at c.first.ensures in
    rw c.with_procs.ensures (record { procs = rw (c.wake.ensures, q) refl; mail = refl; count = rw (← first, lt-ltb _ _ c.if-first-lt-PROCESSES.true) refl; births = refl; settings = refl })

pub returns : goal.returns
returns c =
    let q = c.waiters_at_semaphore-q.ensures in
    let first = rw q at c.first.ensures in
    rw c.with_count.ensures (record { procs = rw q at (wake_none (numbers c.args.self.procs) c.waiters_at_semaphore-q.result c.first.ensures c.args.slice c.if-first-lt-PROCESSES.false); mail = refl; count = rw (← first, le-ltb _ _ c.if-first-lt-PROCESSES.false) c.signalled.ensures; births = refl; settings = refl })
