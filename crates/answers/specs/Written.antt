-- Where a text goes: at the start of an area, and nothing of it where it does not fit.
-- Assumes nothing.
use Rattle.std.specs.Prelude.{ℕ, ◌≡◌, List, ◌++◌, length, drop, leb, if◌then◌else◌}

-- l at the start of the area o, and the bytes behind it unchanged
abbrev pub laid : List ℕ → List ℕ → List ℕ
laid l o = l ++ drop (length l) o

pub record Written (l old new : List ℕ) (count : ℕ) : Type 0 where
  pub content : new ≡ (if leb (length l) (length old) then laid l old else old)
  pub counted : count ≡ (if leb (length l) (length old) then length l else 0)
