-- The listing: the row of each process.
-- Assumes nothing.
use Rattle.std.specs.Prelude.{ℕ, ◌+◌, ◌-◌, [], ◌∷◌, length, ltb, eqb, if◌then◌else◌}
use Rattle.lists.specs.Lists.{occurs, ahead, lowest}
use Rattle.plain.specs.Sizes.{processes, classes, mailboxes, queues}
use Rattle.plain.specs.State.{State}
use Rattle.plain.specs.Calls.{Refusal, Outcome, is_empty, bytes_in, done, judge}

-- "Row: place, which class, mailbox or semaphore, position in that queue from 0, class, ticks left, 1 if the hand is full, length in hand."
pub record Row : Type 0 where
  pub place : ℕ
  pub which : ℕ
  pub position : ℕ
  pub class : ℕ
  pub ticks : ℕ
  pub full : ℕ
  pub length : ℕ

abbrev pub row_as : State → ℕ → ℕ → ℕ → ℕ → Row
row_as s p place which position = record {
  place = place;
  which = which;
  position = position;
  class = s.procs.class p;
  ticks = s.procs.ticks p;
  full = if is_empty (s.hand p) then 0 else 1;
  length = length (bytes_in (s.hand p));
}

-- the queue in which p stands, or past the last one
unfoldable pub queue_of : State → ℕ → ℕ
queue_of s p = lowest 0 queues (λ q. ltb 0 (occurs p (s.procs.queue q)))

-- "2 ready, 3 at a mailbox, 4 at a semaphore", "0 unused"
abbrev pub row_in : State → ℕ → ℕ → Row
row_in s p q =
    let position : ℕ = ahead p (s.procs.queue q) in
    if ltb q classes then row_as s p 2 q position
    else (if ltb q (classes + mailboxes) then row_as s p 3 (q - classes) position
    else (if ltb q queues then row_as s p 4 (q - (classes + mailboxes)) position
    else row_as s p 0 0 0))

-- "1 running", "5 the null process standing by", "Process 0 has zeros after its place."
abbrev pub null_row : State → Row
null_row s = record { place = if eqb s.procs.running 0 then 1 else 5; which = 0; position = 0; class = 0; ticks = 0; full = 0; length = 0 }

unfoldable pub row : State → ℕ → Row
row s p =
    if eqb p 0 then null_row s
    else (if eqb p s.procs.running then row_as s p 1 (s.procs.class p) 0 else row_in s p (queue_of s p))

-- "9: fewer than 32 rows. Number: 32"
abbrev pub few_rows : ℕ → Refusal
few_rows rows = record { code = 9; number = processes; holds = ltb rows processes }

-- "writes one row per process into a lent table of rows, row i for process i, later rows unchanged"
unfoldable pub listing : State → ℕ → Outcome
listing s rows = judge (few_rows rows ∷ []) s (done 0 s)
