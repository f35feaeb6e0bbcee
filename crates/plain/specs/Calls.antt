-- "What each call does" and "What comes back". Where 01 says 3 ticks "the slice stands for 3" (request 3): that of the settings, n below.
-- Assumes nothing.
use Rattle.std.specs.Prelude.{ℕ, zero, suc, ◌+◌, ◌-◌, Bool, true, false, not, ◌||◌, List, [], ◌∷◌, ◌++◌, length, ltb, leb, eqb, if◌then◌else◌}
use Rattle.std.proofs.Math.Option.{Option, none, some}
use Rattle.plain.specs.Sizes.{processes, classes, mailboxes, longest, semaphores, highest_count, at_mailbox, at_semaphore}
use Rattle.plain.specs.State.{Message, Procs, State, level, line, rank, left, move, give, fill, score, unused, free_process}
use Rattle.plain.specs.Names.{born, raised, name, bare, names}
use Rattle.plain.specs.Mailboxes.{allot, no_size, busy, refuses, relieved, buffers_for, no_buffers}
use Rattle.plain.specs.Runs.{make_ready, go_to, halt}

pub data Call : Type 0 where
  create : ℕ → Call
  stop : ℕ → Call
  end : Call
  yield : Call
  class : ℕ → Call
  tick : Call
  mailbox : ℕ → ℕ → ℕ → Call
  send : ℕ → List ℕ → Call
  receive : ℕ → Call
  read : ℕ → Call
  release : Call
  signal : ℕ → Call
  wait : ℕ → Call

-- "An answer is code, number, running process after the call"
pub record Answer : Type 0 where
  pub code : ℕ
  pub number : ℕ
  pub running : ℕ

-- What a call gives: its answer, the bytes that a read copies to the room, and the state after it.
pub record Outcome : Type 0 where
  pub answer : Answer
  pub message : List ℕ
  pub next : State

abbrev pub answering : ℕ → ℕ → List ℕ → State → Outcome
answering code number message s = record { answer = record { code = code; number = number; running = s.procs.running }; message = message; next = s }

-- "0: done"
abbrev pub done : ℕ → State → Outcome
done number s = answering 0 number [] s

-- "Caller" is the running process.
abbrev pub caller : State → ℕ
caller s = s.procs.running

abbrev pub hand : State → Option Message
hand s = s.hand (caller s)

abbrev pub is_empty : Option Message → Bool
is_empty none = true
is_empty (some x) = false

abbrev pub bytes_in : Option Message → List ℕ
bytes_in none = []
bytes_in (some x) = x.bytes

-- ---- what each call does, where nothing refuses it

-- "the lowest unused number becomes a process and is made ready", its birth count "raised by 1"
abbrev pub created : ℕ → ℕ → State → State
created p c s = move (make_ready s.settings.slice p (rank p c s.procs)) (born p (raised (s.births p)) s)

-- "p leaves its place, its hand's buffer becomes free, its number unused. Choose if it ran."
abbrev pub stopped : ℕ → State → State
stopped p s = give p none (move (halt p s.procs) s)

-- "the running process joins the rear of its class with 3 ticks; choose"
abbrev pub yielded : ℕ → Procs → Procs
yielded n r = go_to n (level r r.running) r

-- "the running process changes class. Same class: nothing changes. Another: it joins the rear there with 3 ticks; choose."
abbrev pub regraded : ℕ → ℕ → Procs → Procs
regraded n c r = if eqb c (r.class r.running) then r else go_to n c (rank r.running c r)

-- the running process has t ticks left; "at none left, as yield"
abbrev pub spent : ℕ → ℕ → Procs → Procs
spent n zero r = yielded n r
spent n (suc t) r = left r.running (suc t) r

-- "0 running, nothing changes. Otherwise one tick less"
abbrev pub ticked : ℕ → Procs → Procs
ticked n r = if eqb r.running 0 then r else spent n (r.ticks r.running - 1) r

-- w, the first of queue q before the others in l, leaves it and is made ready
abbrev pub woken : ℕ → ℕ → List ℕ → State → State
woken q w l s = move (make_ready s.settings.slice w (line q l s.procs)) s

-- "If someone waits at m, the first waiter gets it in hand and is made ready; else it is queued last in m."
abbrev pub deliver : ℕ → Message → List ℕ → State → State
deliver m x [] s = fill m (s.box m ++ (x ∷ [])) s
deliver m x (w ∷ l) s = give w (some x) (woken (at_mailbox m) w l s)

-- "the caller joins the rear of the waiters; choose; answer 32", which is "done, the caller waits"
abbrev pub wait_at : ℕ → State → Outcome
wait_at q s = answering 32 0 [] (move (go_to s.settings.slice q s.procs) s)

-- "the first message of m goes into the caller's hand, number answered: its length. If m is empty the caller joins the rear of its waiters"
abbrev pub fetch : ℕ → List Message → State → Outcome
fetch m [] s = wait_at (at_mailbox m) s
fetch m (x ∷ l) s = done (length x.bytes) (give (caller s) (some x) (fill m l s))

-- "the first waiter is made ready; with no waiter the count goes up by 1"
abbrev pub wake : ℕ → List ℕ → State → State
wake k [] s = score k (s.count k + 1) s
wake k (w ∷ l) s = woken (at_semaphore k) w l s

-- "the count goes down by 1; at 0 the caller joins the rear of the waiters"
abbrev pub claim : ℕ → ℕ → State → Outcome
claim k zero s = wait_at (at_semaphore k) s
claim k (suc n) s = done 0 (score k n s)

unfoldable pub perform : State → Call → Outcome
perform s (create c) = let p : ℕ = free_process s.procs in let next : State = created p c s in done (name next.births p) next
perform s (stop n) = done 0 (stopped (bare n) s)
perform s end = done 0 (stopped (caller s) s)
perform s yield = done 0 (move (yielded s.settings.slice s.procs) s)
perform s (class c) = done 0 (move (regraded s.settings.slice c s.procs) s)
perform s tick = done 0 (move (ticked s.settings.slice s.procs) s)
perform s (mailbox m c d) = done 0 (allot m c d s)
perform s (send m b) = done 0 (deliver m (record { lies = buffers_for m b s; bytes = b }) (s.procs.queue (at_mailbox m)) (relieved m s))
perform s (receive m) = fetch m (s.box m) s
perform s (read room) = answering 0 (length (bytes_in (hand s))) (bytes_in (hand s)) s
perform s release = done 0 (give (caller s) none s)
perform s (signal k) = done 0 (wake k (s.procs.queue (at_semaphore k)) s)
perform s (wait k) = claim k (s.count k) s

-- ---- what is refused, in the order of document 01
-- 14 and 15 are judged before these and belong to the code.

pub record Refusal : Type 0 where
  pub code : ℕ
  pub number : ℕ
  pub holds : Bool

abbrev pub on : ℕ → Bool → Refusal
on k t = record { code = k; number = 0; holds = t }

-- "1: process is 0, over 31 or unused", and "1 also for a wrong birth count, same place": n is a name
abbrev pub no_process : ℕ → State → Refusal
no_process n s = on 1 (eqb (bare n) 0 || (not (names s.births n) || unused s.procs (bare n)))

-- "2: class over 4"
abbrev pub no_class : ℕ → Refusal
no_class c = on 2 (leb classes c)

-- "3: mailbox over 15"
abbrev pub no_mailbox : ℕ → Refusal
no_mailbox m = on 3 (leb mailboxes m)

-- "4: semaphore over 15"
abbrev pub no_semaphore : ℕ → Refusal
no_semaphore k = on 4 (leb semaphores k)

-- "5: end, yield, class, receive, read, release or wait while 0 runs"
abbrev pub idle : State → Refusal
idle s = on 5 (eqb (caller s) 0)

-- "6: message over 512 bytes", by request 6 "over 4,096"
abbrev pub too_long : List ℕ → Refusal
too_long b = on 6 (ltb longest (length b))

-- "7: receive with a full hand"
abbrev pub full_hand : State → Refusal
full_hand s = on 7 (not (is_empty (hand s)))

-- "8: read or release with an empty hand"
abbrev pub empty_hand : State → Refusal
empty_hand s = on 8 (is_empty (hand s))

-- "9: room shorter than the message. Number: length needed"
abbrev pub short_room : ℕ → State → Refusal
short_room room s = let n : ℕ = length (bytes_in (hand s)) in record { code = 9; number = n; holds = ltb room n }

-- "10: no unused process (create only)"
abbrev pub no_unused : State → Refusal
no_unused s = on 10 (eqb (free_process s.procs) processes)

-- "13: signal at 65,535"
abbrev pub full_count : ℕ → State → Refusal
full_count k s = on 13 (eqb (s.count k) highest_count)

unfoldable pub refusals : State → Call → List Refusal
refusals s (create c) = no_class c ∷ no_unused s ∷ []
refusals s (stop n) = no_process n s ∷ []
refusals s end = idle s ∷ []
refusals s yield = idle s ∷ []
refusals s (class c) = idle s ∷ no_class c ∷ []
refusals s tick = []
refusals s (mailbox m c d) = no_mailbox m ∷ on 17 (no_size c d) ∷ on 18 (busy m s) ∷ []
refusals s (send m b) = no_mailbox m ∷ too_long b ∷ on 11 (refuses m s) ∷ on 12 (no_buffers m b s) ∷ []
refusals s (receive m) = idle s ∷ no_mailbox m ∷ full_hand s ∷ []
refusals s (read room) = idle s ∷ empty_hand s ∷ short_room room s ∷ []
refusals s release = idle s ∷ empty_hand s ∷ []
refusals s (signal k) = no_semaphore k ∷ full_count k s ∷ []
refusals s (wait k) = idle s ∷ no_semaphore k ∷ []

-- "All codes but 0 and 32 are refusals and change nothing anywhere."
abbrev pub refused : Refusal → State → Outcome
refused r s = answering r.code r.number [] s

-- the first refusal that holds, else what the call does
abbrev pub judge : List Refusal → State → Outcome → Outcome
judge [] s o = o
judge (r ∷ rs) s o = if r.holds then refused r s else judge rs s o

unfoldable pub step : State → Call → Outcome
step s c = judge (refusals s c) s (perform s c)

-- ---- calls in sequence

-- what is heard of each: the answer, and the bytes of a read
unfoldable pub answers : State → List Call → List (Answer × List ℕ)
answers s [] = []
answers s (c ∷ cs) = let o : Outcome = step s c in (o.answer, o.message) ∷ answers o.next cs

unfoldable pub after : State → List Call → State
after s [] = s
after s (c ∷ cs) = after (step s c).next cs
