-- The plain kernel's row as the code gives it, and a row for each process.
-- Assumes nothing.
use Rattle.std.specs.Prelude.{ℕ, ◌<◌, List, ◌≡◌, length, get_or}
use Rattle.plain.specs.Listing as Plain
use Rattle.plain.specs.Sizes.{processes}
use Rattle.rows.specs.declared.Row.{Row}

abbrev pub as_row : Plain.Row → Row
as_row r = record {
  place = r.place;
  which = r.which;
  position = r.position;
  class = r.class;
  ticks = r.ticks;
  full = r.full;
  length = r.length;
}

-- zeros after the place
abbrev pub bare : ℕ → Row
bare place = record { place = place; which = 0; position = 0; class = 0; ticks = 0; full = 0; length = 0 }

-- one row for each process: row i is f i
pub record Each (f : ℕ → Row) (l : List Row) : Type 0 where
  pub long : length l ≡ processes
  pub at : (i : ℕ) (d : Row) → i < processes → get_or l i d ≡ f i
