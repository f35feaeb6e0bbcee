-- `verdicts::no_size` meets its contract. Assumes nothing.
use Rattle.plain.specs.Mailboxes.{no_size, most_queued}
use Rattle.std.proofs.Common.{rules}
use Rattle.verdicts.proofs.no_size.Goals as goal

pub returns-then-capacity-gt-MOST_QUEUED : goal.returns-then-capacity-gt-MOST_QUEUED
unfolding no_size most_queued
returns-then-capacity-gt-MOST_QUEUED c = search rules

pub returns-else-capacity-gt-MOST_QUEUED : goal.returns-else-capacity-gt-MOST_QUEUED
unfolding no_size most_queued
returns-else-capacity-gt-MOST_QUEUED c = search rules
