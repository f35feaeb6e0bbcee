-- How many messages each mailbox takes, and its mode, as a table of each has them.
-- Assumes nothing.
use Rattle.std.specs.Prelude.{ℕ, List, get_or}
use Rattle.plain.specs.State.{usual}

-- what a table has for a mailbox; past the last one all is as at the fresh start
abbrev pub entry_in : (ℕ → ℕ) → List ℕ → ℕ → ℕ
entry_in start t m = get_or t m (start m)

abbrev pub capacity_in : List ℕ → ℕ → ℕ
capacity_in = entry_in usual.capacity

abbrev pub mode_in : List ℕ → ℕ → ℕ
mode_in = entry_in usual.mode
