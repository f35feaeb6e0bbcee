-- What is noted of those who stand in a queue, in a table with an entry for each process.
-- Total: for any table and any list. Assumes nothing.
use Rattle.std.specs.Prelude.{ℕ, ◌+◌, List, [], ◌∷◌, set}

-- how much each one ahead adds to a note
abbrev pub one_ahead : ℕ
one_ahead = 65536

-- each of l has a note in the table: the first of them w, and each one after it so much more
unfoldable pub noted : List ℕ → ℕ → List ℕ → List ℕ
noted t w [] = t
noted t w (x ∷ l) = noted (set t x w) (w + one_ahead) l
