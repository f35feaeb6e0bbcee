-- Where a process stands, read off the numbers of a struct: the first three columns of its row.
-- Total: for any numbers and any process number. Assumes nothing.
use Rattle.std.specs.Prelude.{ℕ, zero, suc, ◌+◌, ◌*◌, ◌/◌, ◌%◌, ◌<◌, List, ◌≡◌, eqb, get_or, replicate, if◌then◌else◌}
use Rattle.plain.specs.Sizes.{processes, classes, mailboxes, semaphores}
use Rattle.queues.specs.Lines.{line}
use Rattle.queues.specs.Noted.{one_ahead, noted}
use Rattle.procs.specs.Moves.{class_at}
use Rattle.procs.specs.Stands.{Numbers}
use Rattle.rows.specs.declared.spots.Spot.{Spot}

abbrev pub spot : ℕ → ℕ → ℕ → Spot
spot place which position = record { place = place; which = which; position = position }

-- ---- a spot as one number

abbrev pub coded : ℕ → ℕ → ℕ → ℕ
coded place which position = place + 256 * which + one_ahead * position

unfoldable pub spot_from : ℕ → Spot
spot_from w = spot (w % 256) (w / 256 % 256) (w / one_ahead % processes)

-- ---- everyone's

-- each queue read from first to last, so many queues from `first` on: everyone in them has this place
unfoldable pub swept : List ℕ → ℕ → ℕ → ℕ → List ℕ → List ℕ
swept next place first zero t = t
swept next place first (suc count) t = noted (swept next place first count t) (coded place count 0) (line next (first + count))

-- "2 ready, 3 at a mailbox, 4 at a semaphore", "0 unused"
unfoldable pub everyone : List ℕ → List ℕ
everyone next =
    swept next 4 (classes + mailboxes) semaphores
    (swept next 3 classes mailboxes
    (swept next 2 0 classes (replicate processes 0)))

unfoldable pub spot_in : List ℕ → ℕ → Spot
spot_in next p = spot_from (get_or (everyone next) p 0)

-- "1 running", "the class if running"
unfoldable pub spot_of : Numbers → ℕ → Spot
spot_of k p = if eqb p k.running then spot 1 (class_at k p) 0 else spot_in k.tables.next p

-- ---- inside

-- the spots f of all processes, each as one number
abbrev pub Spots : (ℕ → Spot) → List ℕ → Type 0
Spots f at = (p : ℕ) → p < processes → spot_from (get_or at p 0) ≡ f p
