-- The counts of the theorems at work: each example is computed, and each count in it is met.
-- Assumes nothing.
use Prim.Native.Nat.{ℕ}
use mathlib.Core.Bool.{true}
use mathlib.Core.Path.{◌≡◌, refl}
use mathlib.Core.List.{List, [], ◌∷◌}
use Rattle.lists.specs.Lists.{total, ahead, lowest, those}
use Rattle.plain.specs.Sizes.{buffer_size, longest, highest_count, at_semaphore}
use Rattle.plain.specs.State.{State, start, spots, held, free_process, free_buffers}
use Rattle.plain.specs.Pages.{needed}
use Rattle.plain.specs.Names.{raised, name, bare, names}
use Rattle.plain.specs.Mailboxes.{most_queued, no_size, busy, refuses, overflows, relieved}
use Rattle.plain.specs.Runs.{choose, choose_below, join, stand_down, make_ready, go_to, remove, halt}
use Rattle.plain.specs.Calls.{Call, create, stop, end, tick, mailbox, send, receive, signal, wait, perform, refusals, step, after}
use Rattle.plain.specs.Start.{slice_of}
use Rattle.plain_laws.specs.Names.{born_in, stopped_in}
use Rattle.plain_laws.specs.History.{is_done, sent, gone, dropped, count_ahead, moments, ticks_seen, turns_before}
use Rattle.plain_laws.specs.Waiters.{served}

-- the state that calls lead to from fresh, with 3 ticks to a slice
abbrev tuned : State
tuned = start (slice_of 3)

-- the state that calls lead to from there
unfoldable reached : List Call → State
unfolding after step refusals perform raised name bare names choose choose_below join stand_down make_ready go_to remove halt spots total lowest held free_process free_buffers those needed buffer_size longest highest_count most_queued no_size busy refuses overflows relieved
reached cs = after tuned cs

-- 2 is ready behind 1, who runs: one ahead. It sees three ticks before it runs, as many as the bound allows, and 1 has two more turns.
equals : List Call
equals = create 2 ∷ create 2 ∷ []

ticks : List Call
ticks = tick ∷ tick ∷ tick ∷ tick ∷ tick ∷ []

bound_met : (count_ahead (reached equals).procs 2 ≡ 1) × (ticks_seen 2 (moments (reached equals) ticks) ≡ 3) × (turns_before 1 2 (moments (reached equals) ticks) ≡ 2)
unfolding reached equals ticks count_ahead moments ticks_seen turns_before
bound_met = (refl, refl, refl)

-- 1 is preempted by 3 after a tick and goes to the front: nobody is ahead of it, and it sees no tick before it runs again.
preempted : List Call
preempted = create 2 ∷ create 2 ∷ tick ∷ create 4 ∷ []

front_waits_for_none : (count_ahead (reached preempted).procs 1 ≡ 0) × (ticks_seen 1 (moments (reached preempted) (tick ∷ tick ∷ end ∷ tick ∷ [])) ≡ 0) × (count_ahead (reached preempted).procs 2 ≡ 1)
unfolding reached preempted count_ahead moments ticks_seen
front_waits_for_none = (refl, refl, refl)

-- three accepted sends to mailbox 0: one to a waiter, one received later, one still queued
posted : List Call
posted = create 1 ∷ receive 0 ∷ send 0 [] ∷ send 0 [] ∷ send 0 [] ∷ create 2 ∷ receive 0 ∷ []

messages-counted : (sent 0 tuned posted ≡ 3) × (gone 0 tuned posted ≡ 2)
unfolding reached posted sent gone
messages-counted = (refl, refl)

-- four accepted sends to mailbox 0, which takes two and drops: two are dropped, one is received, one still queued; set anew while it is empty, it refuses the second
meters : List Call
meters = mailbox 0 2 1 ∷ send 0 [] ∷ send 0 [] ∷ send 0 [] ∷ send 0 [] ∷ create 1 ∷ receive 0 ∷ []

rider : List Call
rider = mailbox 0 1 1 ∷ mailbox 0 1 0 ∷ send 0 [] ∷ send 0 [] ∷ []

drops-counted : (sent 0 tuned meters ≡ 4) × (gone 0 tuned meters ≡ 1) × (dropped 0 tuned meters ≡ 2) × (sent 0 tuned rider ≡ 1) × (dropped 0 tuned rider ≡ 0)
unfolding reached meters rider sent gone dropped
drops-counted = (refl, refl, refl, refl, refl)

-- 1 is born, stopped and born again, and then ends: what the fate of its first name goes by. The create that is asked about is accepted.
again : List Call
again = create 1 ∷ stop 257 ∷ create 1 ∷ end ∷ []

births_counted : (born_in 1 (moments tuned again) ≡ 2) × (stopped_in 1 (moments tuned again) ≡ 2) × (is_done (step tuned (create 1)) ≡ true) × ((step tuned (create 1)).answer.number ≡ 257)
unfolding reached again moments born_in stopped_in
births_counted = (refl, refl, refl, refl)

-- 1, 2 and 3 wait at semaphore 0, so that 3 has two ahead: it goes on waiting after two signals, and not after three, nor after two where 2 was stopped. A signal on another semaphore, or one that is refused, counts for nothing.
queued : List Call
queued = create 1 ∷ wait 0 ∷ create 1 ∷ wait 0 ∷ create 1 ∷ wait 0 ∷ []

abbrev waiting : List Call → ℕ × List ℕ
waiting cs = (served (at_semaphore 0) (moments (reached queued) cs), (after (reached queued) cs).procs.queue (at_semaphore 0))

waiters-counted : (ahead 3 ((reached queued).procs.queue (at_semaphore 0)) ≡ 2)
    × (waiting (signal 0 ∷ signal 0 ∷ []) ≡ (2, 3 ∷ []))
    × (waiting (signal 0 ∷ signal 0 ∷ signal 0 ∷ []) ≡ (3, []))
    × (waiting (stop 258 ∷ signal 0 ∷ signal 0 ∷ []) ≡ (2, []))
    × (waiting (signal 1 ∷ signal 16 ∷ []) ≡ (0, 1 ∷ 2 ∷ 3 ∷ []))
unfolding reached queued moments served
waiters-counted = (refl, refl, refl, refl, refl)
