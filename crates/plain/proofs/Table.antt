-- "Numbers to try at the edges": P1 to P10 as one table under one statement, read with names, and examples of what that table alone does not show.
-- Each script starts fresh, with 3 named where 01 was written for 3. Assumes nothing.
use Prim.Native.Nat.{ℕ}
use mathlib.Core.Path.{◌≡◌, refl}
use mathlib.Core.List.{List, [], ◌∷◌, ◌++◌, map}
use native.Mathlib.Omega.{arith}
use lib.ListN.{replicate}
use Rattle.lists.specs.Lists.{total, lowest, those}
use Rattle.plain.specs.Sizes.{buffer_size, longest, highest_count}
use Rattle.plain.specs.State.{Message, State, fresh, spots, held, free_process, free_buffers}
use Rattle.plain.specs.Pages.{needed}
use Rattle.plain.specs.Names.{born, raised, name, bare, names}
use Rattle.plain.specs.Mailboxes.{most_queued, no_size, busy, refuses, overflows, relieved}
use Rattle.plain.specs.Runs.{choose, choose_below, join, stand_down, make_ready, go_to, remove, halt}
use Rattle.plain.specs.Calls.{Call, Answer, create, stop, end, yield, class, tick, mailbox, send, receive, read, release, signal, wait, perform, refusals, step, answers, after}
use Rattle.plain.specs.Start.{longest_slice, fresh_start}
use Rattle.plain.specs.Listing.{Row, row, queue_of}
use Rattle.plain.specs.Why.{ready, semaphore, Says, reason_in, reason, why, Numbers, numbers}

-- a call, and the code, number and running process that it answers
abbrev pub Line : Type 0
Line = Call × ℕ × ℕ × ℕ

infix 90 ◌⇒◌
abbrev pub ◌⇒◌ : Call → ℕ × ℕ × ℕ → Line
c ⇒ a = (c, a.0, a.1, a.2)

abbrev pub script : List Line → List Call
script l = map (λ (x : Line). x.0) l

abbrev pub shown : Answer × List ℕ → ℕ × ℕ × ℕ
shown a = (a.0.code, a.0.number, a.0.running)

-- what the script of a row answers from s on, and how far semaphore 15 counts after it; and what the row says of both
unfoldable pub got : State → List Line → List (ℕ × ℕ × ℕ) × ℕ
unfolding answers after step refusals perform fresh_start raised name bare names most_queued no_size busy refuses overflows relieved choose choose_below join stand_down make_ready go_to remove halt spots total lowest held free_process free_buffers those needed buffer_size longest highest_count longest_slice
got s l = (map shown (answers s (script l)), (after s (script l)).count 15)

abbrev pub told : List Line → List (ℕ × ℕ × ℕ) × ℕ
told l = (map (λ (x : Line). (x.1, x.2, x.3)) l, 0)

abbrev pub abc : List ℕ
abc = 65 ∷ 66 ∷ 67 ∷ []

abbrev pub table : List (List Line)
table =
    -- P1
    (tick ⇒ (0, 0, 0) ∷ [])
    -- P2
    ∷ (create 2 ⇒ (0, 257, 1) ∷ create 2 ⇒ (0, 258, 1) ∷ tick ⇒ (0, 0, 1) ∷ tick ⇒ (0, 0, 1) ∷ tick ⇒ (0, 0, 2) ∷ [])
    -- P3
    ∷ (create 2 ⇒ (0, 257, 1) ∷ create 2 ⇒ (0, 258, 1) ∷ tick ⇒ (0, 0, 1) ∷ create 4 ⇒ (0, 259, 3) ∷ end ⇒ (0, 0, 1) ∷ tick ⇒ (0, 0, 1) ∷ tick ⇒ (0, 0, 2) ∷ [])
    -- P4
    ∷ (create 4 ⇒ (0, 257, 1) ∷ [])
    ∷ (create 5 ⇒ (2, 0, 0) ∷ [])
    -- P5
    ∷ (create 1 ⇒ (0, 257, 1) ∷ receive 0 ⇒ (32, 0, 0) ∷ send 0 abc ⇒ (0, 0, 1) ∷ [])
    -- P6
    ∷ (create 3 ⇒ (0, 257, 1) ∷ create 3 ⇒ (0, 258, 1) ∷ yield ⇒ (0, 0, 2) ∷ yield ⇒ (0, 0, 1) ∷ [])
    -- P7
    ∷ (create 1 ⇒ (0, 257, 1) ∷ stop 257 ⇒ (0, 0, 0) ∷ create 1 ⇒ (0, 513, 1) ∷ [])
    -- P8
    ∷ (create 0 ⇒ (0, 257, 1) ∷ class 0 ⇒ (0, 0, 1) ∷ class 4 ⇒ (0, 0, 1) ∷ [])
    -- P9
    ∷ (stop 0 ⇒ (1, 0, 0) ∷ stop 32 ⇒ (1, 0, 0) ∷ yield ⇒ (5, 0, 0) ∷ [])
    -- P10
    ∷ (create 1 ⇒ (0, 257, 1) ∷ wait 15 ⇒ (32, 0, 0) ∷ signal 15 ⇒ (0, 0, 1) ∷ [])
    ∷ []

-- "Older units and stored replay scripts were tuned to 3; each place that relied on it now names 3"
abbrev pub tuned : State
tuned = (fresh_start 3).next

pub table_holds : map (got tuned) table ≡ map told table
unfolding got
table_holds = refl

-- "5 when none is named": the running process after five ticks is 1 1 1 1 2
abbrev pub untuned : List (List Line)
untuned =
    (create 2 ⇒ (0, 257, 1) ∷ create 2 ⇒ (0, 258, 1) ∷ tick ⇒ (0, 0, 1) ∷ tick ⇒ (0, 0, 1) ∷ tick ⇒ (0, 0, 1) ∷ tick ⇒ (0, 0, 1) ∷ tick ⇒ (0, 0, 2) ∷ [])
    ∷ []

pub untuned_holds : map (got fresh) untuned ≡ map told untuned
unfolding got
untuned_holds = refl

-- What a fresh start answers, and the slice that holds after it: "16 for a slice outside 1 to 255 .. if refused, 5 holds".
abbrev pub started : ℕ → ℕ × ℕ × ℕ × ℕ
started n = let a : Answer = (fresh_start n).answer in (a.code, a.number, a.running, (fresh_start n).next.settings.slice)

pub starts_shown : map started (0 ∷ 1 ∷ 3 ∷ 255 ∷ 256 ∷ []) ≡ (16, 0, 0, 5) ∷ (0, 0, 0, 1) ∷ (0, 0, 0, 3) ∷ (0, 0, 0, 255) ∷ (16, 0, 0, 5) ∷ []
unfolding got
starts_shown = refl

-- "Mistakes that come easily", where the table does not show them
abbrev pub mistakes : List (List Line)
mistakes =
    -- "A message of 512 bytes is taken, 513 gives 6. Mailbox 16 with 513 bytes gives 3.": by request 6 4,096 and 4,097
    (send 0 (replicate 4096 0) ⇒ (0, 0, 0) ∷ send 0 (replicate 4097 0) ⇒ (6, 0, 0) ∷ send 16 (replicate 4097 0) ⇒ (3, 0, 0) ∷ [])
    -- a message that a waiter got is no longer queued
    ∷ (create 1 ⇒ (0, 257, 1) ∷ receive 0 ⇒ (32, 0, 0) ∷ send 0 abc ⇒ (0, 0, 1) ∷ read 3 ⇒ (0, 3, 1) ∷ release ⇒ (0, 0, 1) ∷ receive 0 ⇒ (32, 0, 0) ∷ [])
    -- a stopped process leaves nothing in the hand of the next of its number
    ∷ (create 1 ⇒ (0, 257, 1) ∷ send 0 abc ⇒ (0, 0, 1) ∷ receive 0 ⇒ (0, 3, 1) ∷ stop 257 ⇒ (0, 0, 0) ∷ create 1 ⇒ (0, 513, 1) ∷ read 3 ⇒ (8, 0, 1) ∷ [])
    ∷ []

pub mistakes-shown : map (got tuned) mistakes ≡ map told mistakes
unfolding got
mistakes-shown = refl

-- Request 4: a name is the number and 256 times its births, and an earlier one is refused, and so is a bare number; a count of 255 goes back to 0.
abbrev pub screens : List (List Line)
screens =
    (create 1 ⇒ (0, 257, 1) ∷ stop 257 ⇒ (0, 0, 0) ∷ stop 257 ⇒ (1, 0, 0) ∷ create 1 ⇒ (0, 513, 1) ∷ stop 257 ⇒ (1, 0, 1) ∷ stop 1 ⇒ (1, 0, 1) ∷ stop 769 ⇒ (1, 0, 1) ∷ stop 513 ⇒ (0, 0, 0) ∷ [])
    ∷ []

pub screens-shown : map (got fresh) screens ≡ map told screens
unfolding got
screens-shown = refl

abbrev pub returns : List (List Line)
returns = (create 1 ⇒ (0, 1, 1) ∷ stop 257 ⇒ (1, 0, 1) ∷ stop 1 ⇒ (0, 0, 0) ∷ create 1 ⇒ (0, 257, 1) ∷ []) ∷ []

pub returns-shown : map (got (born 1 255 fresh)) returns ≡ map told returns
unfolding got
returns-shown = refl

-- what `why` answers to a name, after 1 was born once and stopped: its last name is taken, "why 256 is 1", and so are 0 and the bare number of one not born yet
abbrev pub asked : List Call → ℕ → ℕ
asked cs n = (why (after fresh cs) n).answer.code

pub asked-shown : map (asked (create 1 ∷ stop 257 ∷ [])) (0 ∷ 256 ∷ 1 ∷ 257 ∷ 513 ∷ 2 ∷ 258 ∷ 31 ∷ 32 ∷ 288 ∷ 65537 ∷ []) ≡ 0 ∷ 1 ∷ 1 ∷ 0 ∷ 1 ∷ 0 ∷ 1 ∷ 0 ∷ 1 ∷ 1 ∷ 1 ∷ []
unfolding got why
asked-shown = refl

-- Request 5: 3, then 17, then 18, also where nothing would change; a full mailbox that drops loses its oldest and keeps the rest in order, and one that refuses gives 11.
abbrev pub habits : List (List Line)
habits =
    (mailbox 16 0 2 ⇒ (3, 0, 0) ∷ send 5 abc ⇒ (0, 0, 0) ∷ mailbox 5 0 0 ⇒ (17, 0, 0) ∷ mailbox 5 33 1 ⇒ (17, 0, 0) ∷ mailbox 5 1 2 ⇒ (17, 0, 0) ∷ mailbox 5 8 0 ⇒ (18, 0, 0) ∷ mailbox 6 32 1 ⇒ (0, 0, 0) ∷ [])
    ∷ (create 1 ⇒ (0, 257, 1) ∷ receive 5 ⇒ (32, 0, 0) ∷ mailbox 5 8 0 ⇒ (18, 0, 0) ∷ send 5 abc ⇒ (0, 0, 1) ∷ mailbox 5 1 0 ⇒ (0, 0, 1) ∷ [])
    ∷ (mailbox 5 2 1 ⇒ (0, 0, 0) ∷ send 5 [] ⇒ (0, 0, 0) ∷ send 5 (1 ∷ []) ⇒ (0, 0, 0) ∷ send 5 abc ⇒ (0, 0, 0) ∷ create 1 ⇒ (0, 257, 1) ∷ receive 5 ⇒ (0, 1, 1) ∷ release ⇒ (0, 0, 1) ∷ receive 5 ⇒ (0, 3, 1) ∷ release ⇒ (0, 0, 1) ∷ receive 5 ⇒ (32, 0, 0) ∷ [])
    ∷ (mailbox 5 1 0 ⇒ (0, 0, 0) ∷ send 5 abc ⇒ (0, 0, 0) ∷ send 5 [] ⇒ (11, 0, 0) ∷ create 1 ⇒ (0, 257, 1) ∷ receive 5 ⇒ (0, 3, 1) ∷ [])
    ∷ []

pub habits-shown : map (got tuned) habits ≡ map told habits
unfolding got
habits-shown = refl

-- The buffers in which the messages of mailbox 5 lie, which takes two: the one that is dropped is the lowest free one; with a lower one free that is taken; with room for it nothing is dropped.
abbrev pub laid : List Call → List (List ℕ)
laid cs = map (λ (x : Message). x.lies) ((after tuned cs).box 5)

pub drops-shown : map laid ((mailbox 5 2 1 ∷ send 5 [] ∷ send 5 [] ∷ send 5 abc ∷ [])
    ∷ (mailbox 5 2 1 ∷ send 0 [] ∷ send 5 [] ∷ send 5 [] ∷ create 1 ∷ receive 0 ∷ release ∷ send 5 abc ∷ [])
    ∷ (mailbox 5 3 1 ∷ send 5 [] ∷ send 5 [] ∷ send 5 abc ∷ [])
    ∷ []) ≡ ((1 ∷ []) ∷ (0 ∷ []) ∷ []) ∷ ((2 ∷ []) ∷ (0 ∷ []) ∷ []) ∷ ((0 ∷ []) ∷ (1 ∷ []) ∷ (2 ∷ []) ∷ []) ∷ []
unfolding got
drops-shown = refl

-- All 32 buffers are in use, 31 of them in mailbox 5: a send to it drops its oldest, whose buffer is the only free one; one to mailbox 6, which drops too but is not full, gets 12.
abbrev pub filled : List Call
filled = mailbox 5 31 1 ∷ mailbox 6 2 1 ∷ send 6 [] ∷ replicate 31 (send 5 [])

pub all_in_use : map shown (answers (after tuned filled) (send 6 abc ∷ send 5 abc ∷ [])) ≡ (12, 0, 0) ∷ (0, 0, 0) ∷ []
unfolding got
all_in_use = refl

-- Request 6: none and 512 bytes lie in one buffer, 513 in two; a drop that frees three of them, for a message that needs four.
pub pages_shown : map laid ((send 5 [] ∷ send 5 (replicate 512 0) ∷ send 5 (replicate 513 0) ∷ [])
    ∷ (mailbox 5 2 1 ∷ send 5 (replicate 1025 0) ∷ send 5 [] ∷ send 5 (replicate 1537 0) ∷ [])
    ∷ []) ≡ ((0 ∷ []) ∷ (1 ∷ []) ∷ (2 ∷ 3 ∷ []) ∷ []) ∷ ((3 ∷ []) ∷ (0 ∷ 1 ∷ 2 ∷ 4 ∷ []) ∷ []) ∷ []
unfolding got
pages_shown = refl

-- Six buffers are free, and mailbox 5, which takes two, drops one more: eight are refused by one buffer, and its oldest message stays; seven are taken.
abbrev pub nearly_full : List Call
nearly_full = mailbox 5 2 1 ∷ send 5 [] ∷ send 5 (replicate 4096 0) ∷ send 6 (replicate 4096 0) ∷ send 6 (replicate 4096 0) ∷ send 6 [] ∷ []

pub one_too_few : map shown (answers (after tuned nearly_full) (send 5 (replicate 3585 0) ∷ send 5 (replicate 3584 0) ∷ [])) ≡ (12, 0, 0) ∷ (0, 0, 0) ∷ []
unfolding got
one_too_few = refl

pub oldest_stays : map (λ (c : Call). laid (nearly_full ++ (c ∷ []))) (send 5 (replicate 3585 0) ∷ send 5 (replicate 3584 0) ∷ [])
    ≡ ((0 ∷ []) ∷ (1 ∷ 2 ∷ 3 ∷ 4 ∷ 5 ∷ 6 ∷ 7 ∷ 8 ∷ []) ∷ []) ∷ ((1 ∷ 2 ∷ 3 ∷ 4 ∷ 5 ∷ 6 ∷ 7 ∷ 8 ∷ []) ∷ (0 ∷ 26 ∷ 27 ∷ 28 ∷ 29 ∷ 30 ∷ 31 ∷ []) ∷ []) ∷ []
unfolding got
oldest_stays = refl

-- Request 10: of three who wait at semaphore 15, the first by coming goes first, whatever its class, then the next who was not stopped, and a signal counts once nobody waits; a message is for the first who waits, and who comes back waits behind the other.
abbrev pub waiters : List (List Line)
waiters =
    (create 1 ⇒ (0, 257, 1) ∷ wait 15 ⇒ (32, 0, 0) ∷ create 3 ⇒ (0, 258, 2) ∷ wait 15 ⇒ (32, 0, 0) ∷ create 2 ⇒ (0, 259, 3) ∷ wait 15 ⇒ (32, 0, 0)
    ∷ signal 15 ⇒ (0, 0, 1) ∷ stop 258 ⇒ (0, 0, 1) ∷ create 4 ⇒ (0, 514, 2) ∷ signal 15 ⇒ (0, 0, 2) ∷ signal 15 ⇒ (0, 0, 2) ∷ wait 15 ⇒ (0, 0, 2) ∷ end ⇒ (0, 0, 3) ∷ [])
    ∷ (create 1 ⇒ (0, 257, 1) ∷ receive 5 ⇒ (32, 0, 0) ∷ create 2 ⇒ (0, 258, 2) ∷ receive 5 ⇒ (32, 0, 0)
    ∷ send 5 (1 ∷ []) ⇒ (0, 0, 1) ∷ read 9 ⇒ (0, 1, 1) ∷ release ⇒ (0, 0, 1) ∷ receive 5 ⇒ (32, 0, 0)
    ∷ send 5 abc ⇒ (0, 0, 2) ∷ read 9 ⇒ (0, 3, 2) ∷ send 5 [] ⇒ (0, 0, 2) ∷ end ⇒ (0, 0, 1) ∷ read 9 ⇒ (0, 0, 1) ∷ [])
    ∷ []

pub waiters-shown : map (got tuned) waiters ≡ map told waiters
unfolding got
waiters-shown = refl

-- The listing while 1 runs with a message in hand and two ticks left, 2 and 3 are ready, 4 waits at semaphore 15 and 5 at mailbox 7: the rows of 0 to 6.
abbrev pub listed : List Call
listed =
    create 2 ∷ create 2 ∷ create 2 ∷ create 4 ∷ wait 15 ∷ create 3 ∷ receive 7 ∷ send 0 (1 ∷ []) ∷ receive 0 ∷ tick ∷ []

abbrev pub columns : Row → ℕ × ℕ × ℕ × ℕ × ℕ × ℕ × ℕ
columns r = (r.place, r.which, r.position, r.class, r.ticks, r.full, r.length)

pub listing-shown : map (λ (p : ℕ). columns (row (after tuned listed) p)) (0 ∷ 1 ∷ 2 ∷ 3 ∷ 4 ∷ 5 ∷ 6 ∷ [])
    ≡ (5, 0, 0, 0, 0, 0, 0) ∷ (1, 2, 0, 2, 2, 1, 1) ∷ (2, 2, 0, 2, 3, 0, 0) ∷ (2, 2, 1, 2, 3, 0, 0) ∷ (4, 15, 0, 4, 3, 0, 0) ∷ (3, 7, 0, 3, 3, 0, 0) ∷ (0, 0, 0, 0, 0, 0, 0) ∷ []
unfolding got row queue_of
listing-shown = refl

-- Why each of them waits, in numbers; and while a process of class 4 runs.
abbrev pub because : List Call → ℕ → ℕ × ℕ × ℕ
because cs p = let n : Numbers = numbers (reason (after tuned cs) p) in (n.kind, n.which, n.ahead)

pub reasons_shown : map (because listed) (0 ∷ 1 ∷ 2 ∷ 3 ∷ 4 ∷ 5 ∷ 6 ∷ []) ≡ (5, 1, 0) ∷ (1, 0, 0) ∷ (2, 0, 1) ∷ (2, 0, 2) ∷ (4, 15, 0) ∷ (3, 7, 0) ∷ (0, 0, 0) ∷ []
unfolding got queue_of reason_in reason
reasons_shown = refl

pub behind_another : map (because (listed ++ (create 4 ∷ []))) (0 ∷ 1 ∷ 2 ∷ 3 ∷ 6 ∷ []) ≡ (5, 6, 0) ∷ (5, 6, 0) ∷ (5, 6, 0) ∷ (5, 6, 0) ∷ (1, 0, 0) ∷ []
unfolding got queue_of reason_in reason
behind_another = refl

-- that 3 is ready behind two of its class says that one of it runs and one stands before it; and 4 waits at semaphore 15 with nobody before it
pub third_says : Says (after tuned listed).procs 3 (ready 2)
unfolding got
third_says = ((λ e. omega arith, refl), (1, record { before = 2 ∷ []; after = []; whole = refl; many = refl }, refl))

pub waiter_says : Says (after tuned listed).procs 4 (semaphore 15 0)
unfolding got
waiter_says = (omega arith, record { before = []; after = []; whole = refl; many = refl })
