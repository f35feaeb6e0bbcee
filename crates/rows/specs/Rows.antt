-- The promise about the rows: for any struct in its numbers, and the plain kernel's rows where the struct holds a plain state.
-- Assumes nothing.
use Rattle.std.specs.Prelude.{ℕ, eqb, Option, Some, None, is_some, unwrap_or, if◌then◌else◌}
use Rattle.bits.specs.Word.{bit}
use Rattle.plain.specs.Listing as Plain
use Rattle.plain.specs.State.{State}
use Rattle.procs.specs.Moves.{class_at, ticks_at}
use Rattle.procs.specs.Stands as Stands
use Rattle.mail.specs.Carries as Carries
use Rattle.mail.specs.Moves.{has_message, length_in_hand}
use Rattle.kernel.specs.Holds.{Holds}
use Rattle.kernel.specs.declared.Kernel.{Kernel}
use Rattle.rows.specs.Places.{spot_of}
use Rattle.rows.specs.Row.{as_row, bare, Each}
use Rattle.rows.specs.declared.Row.{Row}
use Rattle.rows.specs.declared.spots.Spot.{Spot}
use Rattle.rows.specs.declared.Table.{Table}

-- the row of process 0: "5 the null process standing by", or 1 where it runs
abbrev pub null_row : ℕ → Row
null_row running = bare (if eqb running 0 then 1 else 5)

-- the length in hand of who has a message
unfoldable pub held_by : Carries.Numbers → ℕ → Option ℕ
held_by m p = if has_message m p then Some (length_in_hand m p) else None

-- "1 if the hand is full, length in hand"
abbrev pub row_with : Spot → ℕ → ℕ → Option ℕ → Row
row_with s class ticks hand = record {
  place = s.place;
  which = s.which;
  position = s.position;
  class = class;
  ticks = ticks;
  full = bit (is_some hand);
  length = unwrap_or hand 0;
}

-- the row of any process but 0
abbrev pub row_of : Kernel → ℕ → Row
row_of k p =
    let n : Stands.Numbers = Stands.numbers k.procs in
    row_with (spot_of n p) (class_at n p) (ticks_at n p) (held_by (Carries.numbers k.mail) p)

unfoldable pub row_in : Kernel → ℕ → Row
row_in k p = if eqb p 0 then null_row k.procs.running.0 else row_of k p

-- t has the rows of all processes: for any struct by its numbers, and the plain kernel's where the struct holds a plain state
pub record Shows (k : Kernel) (t : Table) : Type 0 where
  pub whole : Each (row_in k) t.rows
  pub plain : (s : State) → Holds k s → Each (λ i. as_row (Plain.row s i)) t.rows
