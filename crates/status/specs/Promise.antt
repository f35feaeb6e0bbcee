-- What is told of the state that lies in an area: its page, or what is wrong with the input, the first of the faults in this order.
-- Assumes nothing.
use Rattle.std.specs.Prelude.{ℕ, Bool, true, false, List, ◌≡◌}
use Rattle.plain.specs.Listing as Plain
use Rattle.plain.specs.Names.{name}
use Rattle.plain.specs.Sound.{Sound}
use Rattle.plain.specs.State.{State}
use Rattle.board.specs.Area.{Lies, IsSound}
use Rattle.rows.specs.Row.{as_row}
use Rattle.telling.specs.Promise.{not_sound, OfInput, Told, Gives}
use Rattle.wording.specs.Page.{page, page_room}

-- the page of the plain kernel's names and rows, where a sound state lies in the area
pub data Shown (area : List ℕ) : Bool → List ℕ → Type 0 where
  unsound : (IsSound area → ⊥) → Shown area false not_sound
  known : {text : List ℕ} → IsSound area → ((s : State) → Lies area s → Sound s → text ≡ page (name s.births) (λ i. as_row (Plain.row s i))) → Shown area true text

-- for the area that is given
abbrev pub Answers : List ℕ → List ℕ → List ℕ → Told → Type 0
Answers area = Gives page_room (OfInput area (Shown area))
