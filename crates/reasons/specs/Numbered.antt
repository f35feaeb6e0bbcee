-- The reason of a process by the numbers of a struct, and what refuses the question.
-- Total: for any numbers. Assumes nothing.
use Rattle.std.specs.Prelude.{ℕ, suc, List, [], ◌∷◌, eqb, if◌then◌else◌}
use Rattle.plain.specs.Calls.{Refusal}
use Rattle.plain.specs.State.{Procs, State}
use Rattle.plain.specs.Why as Plain
use Rattle.procs.specs.Moves.{class_at}
use Rattle.procs.specs.Stands as Stands
use Rattle.rows.specs.Places.{spot_in}
use Rattle.rows.specs.declared.spots.Spot.{Spot}

-- about the process named n
abbrev pub refusals : ℕ → State → List Refusal
refusals n s = Plain.no_such n s ∷ []

-- processes of which only the runner and its class are told
abbrev pub runner : ℕ → ℕ → Procs
runner p c = record { running = p; queue = λ q. []; class = λ i. c; ticks = λ i. 0 }

-- by where it stands: "2 ready, 3 at a mailbox, 4 at a semaphore"
unfoldable pub reason_by : Procs → Spot → Plain.Reason
reason_by s x =
    if eqb x.place 2 then (if Plain.is_runner_of s x.which then Plain.ready (suc x.position) else Plain.behind s.running)
    else (if eqb x.place 3 then Plain.mailbox x.which x.position
    else (if eqb x.place 4 then Plain.semaphore x.which x.position
    else Plain.unused))

unfoldable pub reason_at : Stands.Numbers → ℕ → Plain.Reason
reason_at k p =
    let r : ℕ = k.running in
    if eqb p r then Plain.running
    else (if eqb p 0 then Plain.behind r
    else reason_by (runner r (class_at k r)) (spot_in k.tables.next p))
