-- The state of the plain kernel: places, and lists in order.
-- Assumes nothing.
use Rattle.std.specs.Prelude.{ℕ, ◌+◌, ◌-◌, Bool, List, [], ◌∷◌, ◌++◌, eqb}
use Rattle.std.proofs.Math.Option.{Option, none, some}
use Rattle.lists.specs.Lists.{put, total, one, occurs, lowest, those}
use Rattle.plain.specs.Sizes.{processes, mailboxes, buffers, queues}

-- A message, queued or in a hand: the buffers in which it lies, in order (request 6), and its bytes.
pub record Message : Type 0 where
  pub lies : List ℕ
  pub bytes : List ℕ

-- Who runs, the queues from first to last, and each process's class and ticks left.
pub record Procs : Type 0 where
  pub running : ℕ
  pub queue : ℕ → List ℕ
  pub class : ℕ → ℕ
  pub ticks : ℕ → ℕ

-- What is set: the ticks of a slice; how many messages each mailbox takes, and its mode, 0 or 1 (request 5).
pub record Settings : Type 0 where
  pub slice : ℕ
  pub capacity : ℕ → ℕ
  pub mode : ℕ → ℕ

-- And each process's hand, each mailbox's messages from first to last, each semaphore's count, and each number's birth count (request 4).
pub record State : Type 0 where
  pub procs : Procs
  pub hand : ℕ → Option Message
  pub box : ℕ → List Message
  pub count : ℕ → ℕ
  pub births : ℕ → ℕ
  pub settings : Settings

-- "A fresh kernel: 0 runs, the others unused, all queues and mailboxes empty, all counts 0." Request 4: "0 at first"
abbrev pub start : Settings → State
start x = record { procs = record { running = 0; queue = λ q. []; class = λ p. 0; ticks = λ p. 0 }; hand = λ p. none; box = λ m. []; count = λ k. 0; births = λ p. 0; settings = x }

-- request 3: "5 when none is named"; request 5: "all sixteen start as 8, refusing"
abbrev pub usual : Settings
usual = record { slice = 5; capacity = λ m. 8; mode = λ m. 0 }

abbrev pub fresh : State
fresh = start usual

-- the class by which p is queued and compared
abbrev pub level : Procs → ℕ → ℕ
level s p = s.class p

-- ---- the state with one thing changed

-- p runs
abbrev pub run : ℕ → Procs → Procs
run p s = record { running = p; queue = s.queue; class = s.class; ticks = s.ticks }

-- the queues are f
abbrev pub lines : (ℕ → List ℕ) → Procs → Procs
lines f s = record { running = s.running; queue = f; class = s.class; ticks = s.ticks }

-- queue q is l
abbrev pub line : ℕ → List ℕ → Procs → Procs
line q l s = lines (put s.queue q l) s

-- p is of class c
abbrev pub rank : ℕ → ℕ → Procs → Procs
rank p c s = record { running = s.running; queue = s.queue; class = put s.class p c; ticks = s.ticks }

-- p has t ticks left
abbrev pub left : ℕ → ℕ → Procs → Procs
left p t s = record { running = s.running; queue = s.queue; class = s.class; ticks = put s.ticks p t }

-- the processes stand as in r
abbrev pub move : Procs → State → State
move r s = record { procs = r; hand = s.hand; box = s.box; count = s.count; births = s.births; settings = s.settings }

-- p has h in hand
abbrev pub give : ℕ → Option Message → State → State
give p h s = record { procs = s.procs; hand = put s.hand p h; box = s.box; count = s.count; births = s.births; settings = s.settings }

-- mailbox m holds l
abbrev pub fill : ℕ → List Message → State → State
fill m l s = record { procs = s.procs; hand = s.hand; box = put s.box m l; count = s.count; births = s.births; settings = s.settings }

-- semaphore k counts n
abbrev pub score : ℕ → ℕ → State → State
score k n s = record { procs = s.procs; hand = s.hand; box = s.box; count = put s.count k n; births = s.births; settings = s.settings }

-- ---- what is said of messages

-- of each
abbrev pub Each : (Message → Type 0) → List Message → Type 0
Each P [] = Unit {0}
Each P (x ∷ l) = P x × Each P l

-- of the one in a hand
abbrev pub InHand : (Message → Type 0) → Option Message → Type 0
InHand P none = Unit {0}
InHand P (some x) = P x

-- ---- who stands where: unused and free are those who stand nowhere

-- in how many places p is: running, or in a queue
unfoldable pub spots : ℕ → (ℕ → List ℕ) → ℕ → ℕ
spots r f p = one r p + total queues (λ q. occurs p (f q))

abbrev pub places : Procs → ℕ → ℕ
places s p = spots s.running s.queue p

abbrev pub unused : Procs → ℕ → Bool
unused s p = eqb (places s p) 0

-- the buffers in which messages lie
abbrev pub buffers_of : List Message → List ℕ
buffers_of [] = []
buffers_of (x ∷ l) = x.lies ++ buffers_of l

abbrev pub in_hand : Option Message → List ℕ
in_hand none = []
in_hand (some x) = x.lies

-- in how many places buffer b is: queued in a mailbox, or in a hand
unfoldable pub held : (ℕ → List Message) → (ℕ → Option Message) → ℕ → ℕ
held box hand b = total mailboxes (λ m. occurs b (buffers_of (box m))) + total processes (λ p. occurs b (in_hand (hand p)))

abbrev pub free : State → ℕ → Bool
free s b = eqb (held s.box s.hand b) 0

-- "The free process and the free buffer used next are always the lowest-numbered"; past the last one where there is no such process
unfoldable pub free_process : Procs → ℕ
free_process s = lowest 1 (processes - 1) (unused s)

unfoldable pub free_buffers : State → List ℕ
free_buffers s = those 0 buffers (free s)
