-- The theorems of request 10, "Waiters get what they were promised. Show that nobody barges in.", over histories from fresh, as a statement. It is proved under its own name in proofs/Theorems.antt.
-- Assumes nothing.
use Rattle.std.specs.Prelude.{ℕ, ◌+◌, ◌≤◌, ◌<◌, Bool, true, false, not, ◌&&◌, List, [], ◌∷◌, ◌++◌, map, ◌⊎◌, ◌≡◌, ltb, eqb, drop, if◌then◌else◌}
use Rattle.lists.specs.Lists.{someone, ahead}
use Rattle.plain.specs.Sizes.{mailboxes, semaphores, at_mailbox, at_semaphore}
use Rattle.plain.specs.State.{Procs, Settings, State, start, unused}
use Rattle.plain.specs.Calls.{Call, create, stop, end, yield, class, tick, mailbox, send, receive, read, release, signal, wait, Outcome, is_empty, bytes_in, step, after}
use Rattle.plain.specs.Sound.{In}
use Rattle.plain.specs.Start.{Set}
use Rattle.plain_laws.specs.History.{as_one, is_refusal, Ready, Moment, moment}

-- ---- those who wait in queue q, a mailbox's or a semaphore's

-- a call is for the first of them: a send to that mailbox, a signal on that semaphore
abbrev pub is_for : ℕ → Call → Bool
is_for q (create c) = false
is_for q (stop n) = false
is_for q end = false
is_for q yield = false
is_for q (class c) = false
is_for q tick = false
is_for q (mailbox m c d) = false
is_for q (send m b) = ltb m mailboxes && eqb (at_mailbox m) q
is_for q (receive m) = false
is_for q (read room) = false
is_for q release = false
is_for q (signal k) = eqb (at_semaphore k) q
is_for q (wait k) = false

-- and is accepted
abbrev pub serves : ℕ → Moment → Bool
serves q t = is_for q t.call && not (is_refusal t.answer)

-- how many are
unfoldable pub served : ℕ → List Moment → ℕ
served q [] = 0
served q (t ∷ ms) = as_one (serves q t) + served q ms

-- how many are refused with this code while somebody waits
unfoldable pub turned_away : ℕ → ℕ → List Moment → ℕ
turned_away code q [] = 0
turned_away code q (t ∷ ms) = as_one (someone (t.from.queue q) && (is_for q t.call && eqb t.answer.code code)) + turned_away code q ms

-- p, who waited, "has been made ready again", by a call that is for it: it runs, or stands in the queue of its class; "or stopped". ("Or out by its limit" comes with request 8.) Until then it waits.
pub data Over (q p : ℕ) : List Moment → Type 0 where
  readied : {t : Moment} {ms : List Moment} → serves q t ≡ true → (t.to.running ≡ p) ⊎ Ready t.to p → Over q p (t ∷ ms)
  stopped : {t : Moment} {ms : List Moment} → unused t.to p ≡ true → Over q p (t ∷ ms)
  later : {t : Moment} {ms : List Moment} → In t.to q p → Over q p ms → Over q p (t ∷ ms)

-- those of l who are not stopped
abbrev pub unstopped : Procs → List ℕ → List ℕ
unstopped r [] = []
unstopped r (x ∷ l) = if unused r x then unstopped r l else x ∷ unstopped r l

-- those of l who are to go on waiting after t: not the first, where it is served, nor who is stopped
abbrev pub remaining : ℕ → List ℕ → Moment → List ℕ
remaining q l t = unstopped t.to (if serves q t then drop 1 l else l)

-- they stand first, in their order, and all others behind them
abbrev pub FirstInLine : ℕ → List ℕ → Moment → Type 0
FirstInLine q l t = (others : List ℕ) × (t.to.queue q ≡ remaining q l t ++ others)

abbrev pub InLine : ℕ → List ℕ → List Moment → Type 0
InLine q l [] = Unit {0}
InLine q l (t ∷ ms) = FirstInLine q l t × InLine q (remaining q l t) ms

-- "n + 1 signals on it have been accepted", p having n ahead of it where the processes stand as in r
abbrev pub Enough : ℕ → Procs → ℕ → List Moment → Type 0
Enough q r p ms = ahead p (r.queue q) + 1 ≤ served q ms

-- The processes stand as in r, `ms` is what follows, and `full` is the code of a full mailbox or semaphore.
pub record Orderly (q full : ℕ) (r : Procs) (ms : List Moment) : Type 0 where
  -- "nobody barges in"
  pub in_line : InLine q (r.queue q) ms
  -- "A process with n ahead .. has been made ready again, or stopped, .. by the time n + 1 signals on it have been accepted, whatever else is called"
  pub in_time : (p : ℕ) → In r q p → Enough q r p ms → Over q p ms
  -- "and no such signal is refused with 13"
  pub never_full : turned_away full q ms ≡ 0

-- ---- their messages

-- A moment, and who has a message of which bytes in hand after it.
pub record Handover : Type 1 where
  pub moment : Moment
  pub in_hand : ℕ → List ℕ → Type 0

-- those of the plain kernel
abbrev pub handover : State → Call → Handover
handover s c =
    let o : Outcome = step s c in
    record { moment = moment s c o; in_hand = λ p b. (is_empty (o.next.hand p) ≡ false) × (bytes_in (o.next.hand p) ≡ b) }

unfoldable pub handovers : State → List Call → List Handover
handovers s [] = []
handovers s (c ∷ cs) = handover s c ∷ handovers (step s c).next cs

-- the first of l has what an accepted send to mailbox m carries, whole
abbrev pub Gets : ℕ → List ℕ → Handover → Type 0
Gets m [] h = Unit {0}
Gets m (w ∷ l) h = (b : List ℕ) → h.moment.call ≡ send m b → is_refusal h.moment.answer ≡ false → h.in_hand w b

-- the first such send is for the first of l, the next for the next of them who is not stopped, and so on
abbrev pub InOrder : ℕ → List ℕ → List Handover → Type 0
InOrder m l [] = Unit {0}
InOrder m l (h ∷ hs) = Gets m l h × InOrder m (remaining (at_mailbox m) l h.moment) hs

-- ---- what waiters were promised

abbrev pub moments_of : List Handover → List Moment
moments_of hs = map (λ (h : Handover). h.moment) hs

-- The processes stand as in r, and `hs` is what follows.
pub record NobodyBarges (r : Procs) (hs : List Handover) : Type 0 where
  pub at_semaphores : (k : ℕ) → k < semaphores → Orderly (at_semaphore k) 13 r (moments_of hs)
  -- "The same for a mailbox with accepted sends": none is refused with 11
  pub at_mailboxes : (m : ℕ) → m < mailboxes → Orderly (at_mailbox m) 11 r (moments_of hs)
  -- "and the messages go to waiters in the order of sending"
  pub messages : (m : ℕ) → m < mailboxes → InOrder m (r.queue (at_mailbox m)) hs

-- after any calls from fresh, whatever is called then
abbrev pub NoBarging : Type 0
NoBarging = (x : Settings) (cs later : List Call) → Set x → let s : State = after (start x) cs in NobodyBarges s.procs (handovers s later)
