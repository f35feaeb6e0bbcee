-- Where a table of links leads: it says which buffer comes after each.
-- Assumes nothing.
use Rattle.std.specs.Prelude.{ℕ, List, [], ◌∷◌, ◌≡◌, get_or}

-- the buffer after b
abbrev pub after : List ℕ → ℕ → ℕ
after t b = get_or t b 0

-- the table leads from b through l, which begins with b, to one that links to itself; or l is empty
pub data Led (t : List ℕ) : ℕ → List ℕ → Type 0 where
  none : {b : ℕ} → Led t b []
  last : {b : ℕ} → after t b ≡ b → Led t b (b ∷ [])
  on : {b x : ℕ} {l : List ℕ} → Led t (after t b) (x ∷ l) → Led t b (b ∷ x ∷ l)
