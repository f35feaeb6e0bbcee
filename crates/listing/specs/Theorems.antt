-- The theorems about the listing, as statements over its promise. Each is proved under its own name in proofs/Theorems.antt.
-- Assumes nothing.
use Rattle.std.specs.Prelude.{ℕ, true, List, ◌≡◌, length}
use Rattle.plain.specs.Listing as Plain
use Rattle.plain_laws.specs.History.{is_refusal}
use Rattle.promise.specs.Asked.{Anywhere}
use Rattle.kernel.specs.Promise.{said}
use Rattle.verdicts.specs.declared.Answer.{Answer}
use Rattle.board.specs.Area.{Lies}
use Rattle.rows.specs.declared.Row.{Row}
use Rattle.listing.specs.Listed.{Tabled, Lists}
use Rattle.listing.specs.Sheets.{Sheets}
use Rattle.listing.specs.declared.Sheet.{Sheet}

-- 1. No second answer, and no second content of the rows.
abbrev pub OneListing : Type 0
OneListing = (rows later later' : List Row) (area : List ℕ) (a a' : Answer) → Lists rows later area a → Lists rows later' area a' → (a ≡ a') × (later ≡ later')

-- 2. Demand 1 (docs/KERNEL.md): a refused listing leaves every row.
abbrev pub RefusedKeepsRows : Type 0
RefusedKeepsRows = (rows later : List Row) (area : List ℕ) (a : Answer) → Lists rows later area a → is_refusal (said a) ≡ true → later ≡ rows

-- 3. Demand 2 (docs/KERNEL.md): a listing at any moment of a run is answered as the plain kernel's, with the plain rows of the state reached then.
abbrev pub ListedAnywhere : Type 1
ListedAnywhere = (rows later : List Row) (a : Answer) → Anywhere Lies (λ s. Plain.listing s (length rows)) (λ s. Tabled s rows later) (later ≡ rows) (said a)

-- 4. No second sheet.
abbrev pub OneSheet : Type 0
OneSheet = (area : List ℕ) (room : ℕ) (l l' : Sheet) → Sheets area room l → Sheets area room l' → l ≡ l'
