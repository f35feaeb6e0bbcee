-- "Why is the printer waiting?": the reasons, what each says of a process of a state, and the one that is given.
-- Assumes nothing.
use Rattle.std.specs.Prelude.{ℕ, suc, ◌+◌, ◌-◌, ◌<◌, Bool, not, ◌&&◌, List, [], ◌∷◌, ◌++◌, ◌≢◌, ◌⊎◌, ◌≡◌, ltb, eqb, length, if◌then◌else◌}
use Rattle.lists.specs.Lists.{ahead}
use Rattle.plain.specs.Sizes.{classes, mailboxes, semaphores, at_mailbox, at_semaphore, queues}
use Rattle.plain.specs.State.{Procs, State, level, places}
use Rattle.plain.specs.Names.{bare, names}
use Rattle.plain.specs.Calls.{Refusal, Outcome, on, done, judge}
use Rattle.plain.specs.Sound.{In}
use Rattle.plain.specs.Listing.{queue_of}

-- "unused; running; at mailbox or semaphore x with n ahead; ready behind n of its own class, the runner counted ..; otherwise ready while process q runs"
pub data Reason : Type 0 where
  unused : Reason
  running : Reason
  ready : ℕ → Reason
  mailbox : ℕ → ℕ → Reason
  semaphore : ℕ → ℕ → Reason
  behind : ℕ → Reason

-- ---- what each says of process p

-- p stands in queue q with n before it
pub record Stands (s : Procs) (q p n : ℕ) : Type 0 where
  pub before : List ℕ
  pub after : List ℕ
  pub whole : s.queue q ≡ before ++ p ∷ after
  pub many : length before ≡ n

-- "the runner is of that class": 0 is of none
abbrev pub RunnerOf : Procs → ℕ → Type 0
RunnerOf s c = (s.running ≢ 0) × (level s s.running ≡ c)

-- p is ready and the runner is not of its class; or p is 0, "while another runs"
abbrev pub StandsBy : Procs → ℕ → Type 0
StandsBy s p = (In s (level s p) p × (RunnerOf s (level s p) → ⊥)) ⊎ ((p ≡ 0) × (s.running ≢ 0))

abbrev pub Says : Procs → ℕ → Reason → Type 0
Says s p unused = (p ≢ 0) × (places s p ≡ 0)
Says s p running = p ≡ s.running
Says s p (ready n) = RunnerOf s (level s p) × ((m : ℕ) × Stands s (level s p) p m × (n ≡ suc m))
Says s p (mailbox x n) = (x < mailboxes) × Stands s (at_mailbox x) p n
Says s p (semaphore x n) = (x < semaphores) × Stands s (at_semaphore x) p n
Says s p (behind q) = StandsBy s p × (q ≡ s.running)

-- ---- the one that is given

abbrev pub is_runner_of : Procs → ℕ → Bool
is_runner_of s c = not (eqb s.running 0) && eqb (level s s.running) c

-- of one who stands in queue q with n ahead; past the last queue, of one who stands in none
unfoldable pub reason_in : Procs → ℕ → ℕ → Reason
reason_in s q n =
    if ltb q classes then (if is_runner_of s q then ready (suc n) else behind s.running)
    else (if ltb q (classes + mailboxes) then mailbox (q - classes) n
    else (if ltb q queues then semaphore (q - (classes + mailboxes)) n
    else unused))

unfoldable pub reason : State → ℕ → Reason
reason s p =
    let q : ℕ = queue_of s p in
    if eqb p s.procs.running then running
    else (if eqb p 0 then behind s.procs.running
    else reason_in s.procs q (ahead p (s.procs.queue q)))

-- "over 31 gives 1", and so does a wrong birth count; 0 is a process here, and so is one that is unused, by the name that was its last
abbrev pub no_such : ℕ → State → Refusal
no_such n s = on 1 (not (names s.births n))

unfoldable pub why : State → ℕ → Outcome
why s n = judge (no_such n s ∷ []) s (done 0 s)

-- ---- in numbers, for the world outside

pub record Numbers : Type 0 where
  pub kind : ℕ
  pub which : ℕ
  pub ahead : ℕ

abbrev pub numbered : ℕ → ℕ → ℕ → Numbers
numbered kind which ahead = record { kind = kind; which = which; ahead = ahead }

abbrev pub numbers : Reason → Numbers
numbers unused = numbered 0 0 0
numbers running = numbered 1 0 0
numbers (ready n) = numbered 2 0 n
numbers (mailbox x n) = numbered 3 x n
numbers (semaphore x n) = numbered 4 x n
numbers (behind q) = numbered 5 q 0

-- what is given beside an answer: the reason, or zeros where the question is refused
abbrev pub told : State → ℕ → Reason
told s n = if eqb (why s n).answer.code 0 then reason s (bare n) else unused
