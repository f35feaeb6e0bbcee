-- When an array holds the semaphores' counts, and what it becomes at a signal and at a wait that passes.
-- Assumes nothing.
use Rattle.std.specs.Prelude.{ℕ, ◌+◌, ◌-◌, Bool, ◌||◌, List, leb, get_or, set, if◌then◌else◌}
use Rattle.lists.specs.Lists.{Entries}
use Rattle.plain.specs.Sizes.{semaphores, highest_count}

abbrev pub Counted : List ℕ → (ℕ → ℕ) → Type 0
Counted = Entries semaphores

-- "with no waiter the count goes up by 1"; the highest count stays
unfoldable pub signalled : List ℕ → ℕ → Bool → List ℕ
signalled t i waiting = if waiting || leb highest_count (get_or t i 0) then t else set t i (get_or t i 0 + 1)

-- "the count goes down by 1"; 0 stays
unfoldable pub claimed : List ℕ → ℕ → List ℕ
claimed t i = set t i (get_or t i 0 - 1)
