-- `kernel::Kernel::delivered` meets its contract. Assumes nothing.
use Rattle.kernel.proofs.Kernel.delivered.Goals as goal
use Rattle.procs.proofs.Ways.{wake_none}
use Rattle.procs.specs.Stands.{numbers}
use mathlib.Core.Path.{refl}

pub returns-then-w-lt-PROCESSES : goal.returns-then-w-lt-PROCESSES
returns-then-w-lt-PROCESSES c =
    let q = c.waiters_at_mailbox-q.ensures in
    rw (c.with_procs.ensures, c.with_mail-next.ensures) (record { procs = rw (c.wake.ensures, q) refl; mail = rw (c.deliver.ensures, c.first-w.ensures, q) refl; count = refl; births = refl; settings = refl })

pub returns : goal.returns
returns c =
    let q = c.waiters_at_mailbox-q.ensures in
    rw c.with_mail-next.ensures (record { procs = rw q at (wake_none (numbers c.args.self.procs) c.waiters_at_mailbox-q.result c.first-w.ensures c.args.slice c.if-w-lt-PROCESSES.false); mail = rw (c.deliver.ensures, c.first-w.ensures, q) refl; count = refl; births = refl; settings = refl })
