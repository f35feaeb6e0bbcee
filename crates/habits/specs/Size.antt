-- What one mailbox may be set to.
-- Assumes nothing.
use Rattle.std.specs.Prelude.{ℕ, ◌≤◌}
use Rattle.plain.specs.Mailboxes.{most_queued}

-- "a capacity of 1 to 32 and a mode: refuse when full .. or drop the oldest"
pub record Size (capacity mode : ℕ) : Type 0 where
  pub some : 1 ≤ capacity
  pub most : capacity ≤ most_queued
  pub of_two : mode ≤ 1
