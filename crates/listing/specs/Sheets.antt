-- What is listed by value: the answer, and the rows.
-- Assumes nothing.
use Rattle.std.specs.Prelude.{ℕ, true, false, List, ◌≡◌, Option, Some, None}
use Rattle.plain.specs.Listing as Plain
use Rattle.plain.specs.State.{State}
use Rattle.plain_laws.specs.History.{is_done}
use Rattle.promise.specs.Promise.{Asks}
use Rattle.kernel.specs.Promise.{said}
use Rattle.board.specs.Area.{Lies}
use Rattle.rows.specs.Row.{as_row, Each}
use Rattle.rows.specs.declared.Row.{Row}
use Rattle.listing.specs.declared.Sheet.{Sheet}

-- the rows of s where its listing for a table of so many rows is not refused, and none where it is
abbrev pub Ruled : State → ℕ → Option (List Row) → Type 0
Ruled s room None = is_done (Plain.listing s room) ≡ false
Ruled s room (Some rows) = (is_done (Plain.listing s room) ≡ true) × Each (λ i. as_row (Plain.row s i)) rows

-- a listing of the state in an area for a table of so many rows, a question
abbrev pub Sheets : List ℕ → ℕ → Sheet → Type 0
Sheets area room l = Asks Lies (λ s. Plain.listing s room) (λ s. Ruled s room l.rows) (l.rows ≡ None) area (said l.answer)
