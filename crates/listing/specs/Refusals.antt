-- What refuses a listing.
-- Assumes nothing.
use Rattle.std.specs.Prelude.{ℕ, List, [], ◌∷◌}
use Rattle.plain.specs.Calls.{Refusal}
use Rattle.plain.specs.Listing.{few_rows}
use Rattle.plain.specs.State.{State}

-- into a table of so many rows
abbrev pub refusals : ℕ → State → List Refusal
refusals rows s = few_rows rows ∷ []
