-- What the theorems count over any calls: ticks, turns, messages sent and gone, refusals passed.
-- Assumes nothing.
use Rattle.std.specs.Prelude.{ℕ, ◌+◌, ◌-◌, ◌≤◌, ◌≡◌, Bool, true, false, not, ◌&&◌, ◌||◌, List, [], ◌∷◌, ◌++◌, eqb, leb, take, if◌then◌else◌}
use Rattle.lists.specs.Lists.{someone, total, occurs}
use Rattle.plain.specs.Sizes.{processes, at_mailbox, at_semaphore}
use Rattle.plain.specs.State.{Procs, Settings, State, level, unused, free_process}
use Rattle.plain.specs.Mailboxes.{allotted, overflows}
use Rattle.plain.specs.Runs.{stand_down, pick}
use Rattle.plain.specs.Calls.{Call, create, stop, end, yield, class, tick, mailbox, send, receive, read, release, signal, wait, Answer, Refusal, Outcome, step}

-- what a call is to the counts and the settings
pub data Kind : Type 0 where
  falls : Kind
  posts : ℕ → Kind
  fetches : ℕ → Kind
  sets : ℕ → ℕ → ℕ → Kind
  other : Kind

abbrev pub kind : Call → Kind
kind (create c) = other
kind (stop p) = other
kind end = other
kind yield = other
kind (class c) = other
kind tick = falls
kind (mailbox m c d) = sets m c d
kind (send m b) = posts m
kind (receive m) = fetches m
kind (read room) = other
kind release = other
kind (signal k) = other
kind (wait k) = other

-- ---- refusals

-- none of these refusals holds
abbrev pub Passed : List Refusal → Type 0
Passed [] = Unit {0}
Passed (r ∷ rs) = (r.holds ≡ false) × Passed rs

-- r is the first of these refusals that holds
pub record First (rs : List Refusal) (r : Refusal) : Type 0 where
  pub before : List Refusal
  pub behind : List Refusal
  pub whole : rs ≡ before ++ r ∷ behind
  pub passed : Passed before
  pub holds : r.holds ≡ true

abbrev pub codes : List Refusal → List ℕ
codes [] = []
codes (r ∷ rs) = r.code ∷ codes rs

-- the first list's numbers stand in the second one in their order
abbrev pub in_order : List ℕ → List ℕ → Bool
in_order [] [] = true
in_order (k ∷ ks) [] = false
in_order [] (o ∷ os) = true
in_order (k ∷ ks) (o ∷ os) = if eqb k o then in_order ks os else in_order (k ∷ ks) os

-- "14, then 15, 5, then 1 to 4, then 6, 7, 8, 10, 11, 12, 13, 9", "16 .. after 14" (request 3), and 17 and 18 after 3 (request 5)
abbrev pub own : List ℕ
own = 5 ∷ 1 ∷ 2 ∷ 3 ∷ 17 ∷ 18 ∷ 4 ∷ 6 ∷ 7 ∷ 8 ∷ 10 ∷ 11 ∷ 12 ∷ 13 ∷ 9 ∷ []

abbrev pub order : List ℕ
order = 14 ∷ 16 ∷ 15 ∷ own

-- "All codes but 0 and 32 are refusals"
abbrev pub is_refusal : Answer → Bool
is_refusal a = not (eqb a.code 0 || eqb a.code 32)

-- ---- messages, of a mailbox m

abbrev pub as_one : Bool → ℕ
as_one t = if t then 1 else 0

-- a send to m; a message that goes from m into a hand, a waiter's hand included
abbrev pub is_send : ℕ → Kind → Bool
is_send m falls = false
is_send m (posts i) = eqb i m
is_send m (fetches i) = false
is_send m (sets i c d) = false
is_send m other = false

abbrev pub is_gone : ℕ → State → Kind → Bool
is_gone m s falls = false
is_gone m s (posts i) = eqb i m && someone (s.procs.queue (at_mailbox m))
is_gone m s (fetches i) = eqb i m
is_gone m s (sets i c d) = false
is_gone m s other = false

-- a message that m drops for another
abbrev pub is_dropped : ℕ → State → Kind → Bool
is_dropped m s falls = false
is_dropped m s (posts i) = eqb i m && (overflows m s && someone (s.box m))
is_dropped m s (fetches i) = false
is_dropped m s (sets i c d) = false
is_dropped m s other = false

abbrev pub is_done : Outcome → Bool
is_done o = eqb o.answer.code 0

-- how many sends to m were accepted, how many messages went from m into a hand, and how many m dropped
unfoldable pub sent : ℕ → State → List Call → ℕ
sent m s [] = 0
sent m s (c ∷ cs) = as_one (is_done (step s c) && is_send m (kind c)) + sent m (step s c).next cs

unfoldable pub gone : ℕ → State → List Call → ℕ
gone m s [] = 0
gone m s (c ∷ cs) = as_one (is_done (step s c) && is_gone m s (kind c)) + gone m (step s c).next cs

unfoldable pub dropped : ℕ → State → List Call → ℕ
dropped m s [] = 0
dropped m s (c ∷ cs) = as_one (is_done (step s c) && is_dropped m s (kind c)) + dropped m (step s c).next cs

-- the settings after a call of this kind that is not refused
abbrev pub settings_by : Kind → Settings → Settings
settings_by falls x = x
settings_by (posts m) x = x
settings_by (fetches m) x = x
settings_by (sets m c d) x = allotted m c d x
settings_by other x = x

-- ---- ticks and turns, of a ready process p

-- p stands ready in the queue of its class
abbrev pub Ready : Procs → ℕ → Type 0
Ready s p = 1 ≤ occurs p (s.queue (level s p))

-- x, a process of p's class, runs
abbrev pub on_duty : Procs → ℕ → ℕ → Bool
on_duty s p x = eqb x s.running && (not (eqb x 0) && eqb (level s x) (level s p))

-- x stands before p in a list
abbrev pub leads : ℕ → ℕ → List ℕ → Bool
leads x p [] = false
leads x p (y ∷ l) = if eqb y p then false else eqb y x || leads x p l

-- x is of p's class and ahead of it, "the runner counted if of that class"
abbrev pub is_ahead : Procs → ℕ → ℕ → Bool
is_ahead s p x = on_duty s p x || leads x p (s.queue (level s p))

-- how many are
unfoldable pub count_ahead : Procs → ℕ → ℕ
count_ahead s p = total processes (λ x. as_one (is_ahead s p x))

-- p "runs or is stopped"
abbrev pub is_over : Procs → ℕ → Bool
is_over s p = eqb s.running p || unused s p

abbrev pub is_tick : Kind → Bool
is_tick falls = true
is_tick (posts m) = false
is_tick (fetches m) = false
is_tick (sets m c d) = false
is_tick other = false

-- A moment of a history: a call, what it answered, and how the processes stood before and after it.
pub record Moment : Type 0 where
  pub from : Procs
  pub call : Call
  pub answer : Answer
  pub to : Procs

-- ---- who joins the rear

-- by a call that is not refused: "made ready", "joins the rear of its class", "joins the rear there", "as yield"
abbrev pub joiners : Procs → Call → List ℕ
joiners r (create c) = free_process r ∷ []
joiners r (stop p) = []
joiners r end = []
joiners r yield = r.running ∷ []
joiners r (class c) = if eqb c (r.class r.running) then [] else r.running ∷ []
joiners r tick = if eqb r.running 0 || not (eqb (r.ticks r.running - 1) 0) then [] else r.running ∷ []
joiners r (mailbox m c d) = []
joiners r (send m b) = take 1 (r.queue (at_mailbox m))
joiners r (receive m) = []
joiners r (read room) = []
joiners r release = []
joiners r (signal k) = take 1 (r.queue (at_semaphore k))
joiners r (wait k) = []

abbrev pub joined : Moment → List ℕ
joined m = if is_refusal m.answer then [] else joiners m.from m.call

-- a moment if whoever joins the rear were chosen in the same call
abbrev pub chosen_at_once : List ℕ → Procs → Procs
chosen_at_once [] r = r
chosen_at_once (x ∷ l) r = pick x (stand_down r)

abbrev pub last_first : Moment → Moment
last_first m = record { from = m.from; call = m.call; answer = m.answer; to = chosen_at_once (joined m) m.to }

-- ---- counted over the moments of a history

-- those of the plain kernel
abbrev pub moment : State → Call → Outcome → Moment
moment s c o = record { from = s.procs; call = c; answer = o.answer; to = o.next.procs }

unfoldable pub moments : State → List Call → List Moment
moments s [] = []
moments s (c ∷ cs) = let o : Outcome = step s c in moment s c o ∷ moments o.next cs

-- how many ticks fall while p's class runs, until p runs or is stopped
unfoldable pub ticks_seen : ℕ → List Moment → ℕ
ticks_seen p [] = 0
ticks_seen p (m ∷ ms) = if is_over m.from p then 0 else as_one (is_tick (kind m.call) && on_duty m.from p m.from.running) + ticks_seen p ms

-- how often a call leaves x running as one of p's class until then
unfoldable pub turns_before : ℕ → ℕ → List Moment → ℕ
turns_before x p [] = 0
turns_before x p (m ∷ ms) = if is_over m.to p then 0 else as_one (on_duty m.to p x) + turns_before x p ms

-- how often one who has joined the rear meanwhile, `late` before these moments, runs as one of p's class until then
unfoldable pub overtaken : List ℕ → ℕ → List Moment → ℕ
overtaken late p [] = 0
overtaken late p (m ∷ ms) =
    let x : ℕ = m.to.running in
    let since : List ℕ = joined m ++ late in
    if is_over m.to p then 0 else as_one (leb 1 (occurs x since) && on_duty m.to p x) + overtaken since p ms
