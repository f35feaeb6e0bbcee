-- "Where everything stands. A state is sound if all of these hold."
-- Assumes nothing.
use Rattle.std.specs.Prelude.{ℕ, ◌≤◌, ◌<◌, ◌≡◌, ◌≢◌, List, [], length}
use Rattle.std.proofs.Math.Option.{Option, none}
use Rattle.lists.specs.Lists.{occurs}
use Rattle.plain.specs.Sizes.{processes, classes, mailboxes, buffers, semaphores, highest_count, at_mailbox, at_semaphore, queues}
use Rattle.plain.specs.State.{Message, Procs, State, level, places, Each, InHand, held}
use Rattle.plain.specs.Pages.{Whole}
use Rattle.plain.specs.Names.{Births}
use Rattle.plain.specs.Start.{Set}

-- p stands in queue q
abbrev pub In : Procs → ℕ → ℕ → Type 0
In s q p = 1 ≤ occurs p (s.queue q)

abbrev pub Used : Procs → ℕ → Type 0
Used s p = 1 ≤ places s p

-- The processes, `slice` ticks to a slice. It also holds midway in a call, before one is chosen.
pub record Seated (slice : ℕ) (s : Procs) : Type 0 where
  -- "Each process 1 to 31 is in exactly one place: unused, running, ready in the queue of its own class, waiting at one mailbox, or waiting at one semaphore."
  pub one_place : (p : ℕ) → 1 ≤ p → places s p ≤ 1
  pub own_class : (c p : ℕ) → c < classes → In s c p → level s p ≡ c
  -- "0 is the null process, never unused, never on a queue"; numbers from 32 on are nobody's
  pub null_nowhere : (q : ℕ) → occurs 0 (s.queue q) ≡ 0
  pub nobody_else : (p : ℕ) → processes ≤ p → places s p ≡ 0
  pub no_more_queues : (q : ℕ) → queues ≤ q → s.queue q ≡ []
  -- "Classes: 0 to 4"
  pub in_class : (p : ℕ) → s.class p < classes
  -- "Ticks left are 1 to 3 for the running and the ready, 3 for a waiter"
  pub ticks_left : (p : ℕ) → 1 ≤ p → Used s p → 1 ≤ s.ticks p
  pub ticks_most : (p : ℕ) → s.ticks p ≤ slice
  pub waiter_ticks : (q p : ℕ) → classes ≤ q → In s q p → s.ticks p ≡ slice
  -- "Process 0 and unused blocks carry zeros."
  pub null_zeros : (s.class 0 ≡ 0) × (s.ticks 0 ≡ 0)
  pub unused_zeros : (p : ℕ) → places s p ≡ 0 → (s.class p ≡ 0) × (s.ticks p ≡ 0)

-- "If a process other than 0 runs, no queue of a higher class has anyone. If 0 runs, all five queues are empty."
abbrev pub Highest : Procs → Type 0
Highest s = (c : ℕ) → c < classes → (s.running ≢ 0 → level s s.running < c) → s.queue c ≡ []

pub record Mail (capacity : ℕ → ℕ) (box : ℕ → List Message) (hand : ℕ → Option Message) : Type 0 where
  -- "Each buffer is free, queued in one mailbox, or in the hand of one process; the three groups together are the 32 buffers, none twice.": with its message
  pub held_once : (b : ℕ) → held box hand b ≤ 1
  pub no_more_buffers : (b : ℕ) → buffers ≤ b → held box hand b ≡ 0
  -- "A buffer that isn't free has a length of 0 to 512": by request 6 a message has one, of 0 to 4,096, and as many buffers as it needs
  pub queued : (m : ℕ) → Each Whole (box m)
  pub all_in_hands : (p : ℕ) → InHand Whole (hand p)
  -- "At most 8 messages are queued in a mailbox": by request 5 as many as it takes
  pub at_most : (m : ℕ) → length (box m) ≤ capacity m
  pub no_more_boxes : (m : ℕ) → mailboxes ≤ m → box m ≡ []

-- "Unused processes, process 0 and mailbox waiters have empty hands."
pub record Hands (s : Procs) (hand : ℕ → Option Message) : Type 0 where
  pub unused : (p : ℕ) → places s p ≡ 0 → hand p ≡ none
  pub null : hand 0 ≡ none
  pub waiters : (m p : ℕ) → m < mailboxes → In s (at_mailbox m) p → hand p ≡ none

-- ".. and none where a process waits. A semaphore where a process waits counts 0."
pub record Waits (s : Procs) (box : ℕ → List Message) (count : ℕ → ℕ) : Type 0 where
  pub boxes : (m p : ℕ) → m < mailboxes → In s (at_mailbox m) p → box m ≡ []
  pub counts : (k p : ℕ) → k < semaphores → In s (at_semaphore k) p → count k ≡ 0

-- "Semaphores: 0 to 15, count 0 to 65,535"
pub record Counts (count : ℕ → ℕ) : Type 0 where
  pub most : (k : ℕ) → count k ≤ highest_count
  pub no_more : (k : ℕ) → semaphores ≤ k → count k ≡ 0

pub record Sound (s : State) : Type 0 where
  pub settings : Set s.settings
  pub seated : Seated s.settings.slice s.procs
  pub highest : Highest s.procs
  pub mail : Mail s.settings.capacity s.box s.hand
  pub hands : Hands s.procs s.hand
  pub waits : Waits s.procs s.box s.count
  pub counts : Counts s.count
  pub births : Births s.births
