-- When an array holds the numbers' birth counts, and what it becomes at a birth.
-- Assumes nothing.
use Rattle.std.specs.Prelude.{ℕ, List, get_or, set}
use Rattle.lists.specs.Lists.{Entries}
use Rattle.plain.specs.Names.{raised}
use Rattle.plain.specs.Sizes.{processes}

-- the counts in it, 0 behind its end
abbrev pub count_in : List ℕ → ℕ → ℕ
count_in t p = get_or t p 0

abbrev pub Kept : List ℕ → (ℕ → ℕ) → Type 0
Kept = Entries processes

-- "raised by 1 at each create of it, from 255 back to 0"
unfoldable pub born : List ℕ → ℕ → List ℕ
born t p = set t p (raised (count_in t p))
