-- What is read off the numbers of the struct, and what they become by each operation: the terms in which the contracts are written.
-- Total: for any numbers, any process number, any class and any queue number. Assumes nothing.
use Rattle.std.specs.Prelude.{ℕ, ◌-◌, Bool, true, false, not, ◌||◌, get_or, set, replicate, eqb, ltb, if◌then◌else◌}
use Rattle.lists.specs.Lists.{put, lowest}
use Rattle.bits.specs.Word.{width, word, bits, highest}
use Rattle.rings.specs.Ring.{Tables}
use Rattle.rings.specs.Moves as Rings
use Rattle.plain.specs.Sizes.{processes, classes, queues}
use Rattle.procs.specs.Stands.{Numbers}

-- 0 runs, nobody stands in a queue, every block carries zeros, every number but 0 is unused
unfoldable pub fresh : Numbers
fresh = record { running = 0; class = replicate processes 0; ticks = replicate processes 0; tables = Rings.fresh processes queues; ready = 0; unused = word width (λ p. not (eqb p 0)) }

abbrev pub class_at : Numbers → ℕ → ℕ
class_at k p = get_or k.class p 0

abbrev pub ticks_at : Numbers → ℕ → ℕ
ticks_at k p = get_or k.ticks p 0

abbrev pub unused_at : Numbers → ℕ → Bool
unused_at k p = bits k.unused p

abbrev pub lowest_unused : Numbers → ℕ
lowest_unused k = lowest 0 width (bits k.unused)

-- past the last process where nobody is there
abbrev pub first_of : Numbers → ℕ → ℕ
first_of k q = Rings.first processes queues k.tables q

-- ---- one thing changed

-- p runs
unfoldable pub runs : ℕ → Numbers → Numbers
runs p k = record { running = p; class = k.class; ticks = k.ticks; tables = k.tables; ready = k.ready; unused = k.unused }

-- p is of class c
unfoldable pub ranked : ℕ → ℕ → Numbers → Numbers
ranked p c k = record { running = k.running; class = set k.class p c; ticks = k.ticks; tables = k.tables; ready = k.ready; unused = k.unused }

-- p has t ticks left
unfoldable pub timed : ℕ → ℕ → Numbers → Numbers
timed p t k = record { running = k.running; class = k.class; ticks = set k.ticks p t; tables = k.tables; ready = k.ready; unused = k.unused }

-- p's bit among the unused is v
unfoldable pub marked : ℕ → Bool → Numbers → Numbers
marked p v k = record { running = k.running; class = k.class; ticks = k.ticks; tables = k.tables; ready = k.ready; unused = word width (put (bits k.unused) p v) }

-- the ready bits w, that of class q as queue q is in t
unfoldable pub noted : ℕ → Tables → ℕ → ℕ
noted q t w = if ltb q classes then word width (put (bits w) q (not (Rings.is_empty processes queues t q))) else w

-- the queues are t, changed at queue q
unfoldable pub requeued : ℕ → Tables → Numbers → Numbers
requeued q t k = record { running = k.running; class = k.class; ticks = k.ticks; tables = t; ready = noted q t k.ready; unused = k.unused }

-- ---- joining and leaving a queue

-- p joins the rear of queue q
unfoldable pub joined : ℕ → ℕ → Numbers → Numbers
joined q p k = requeued q (Rings.join_rear processes queues k.tables q p) k

-- p joins the front of queue q
unfoldable pub fronted : ℕ → ℕ → Numbers → Numbers
fronted q p k = requeued q (Rings.join_front processes queues k.tables q p) k

-- p leaves queue q
unfoldable pub gone : ℕ → ℕ → Numbers → Numbers
gone q p k = requeued q (Rings.leave processes queues k.tables p) k

-- ---- who runs

-- the first of queue q leaves it and runs
unfoldable pub first_runs : ℕ → Numbers → Numbers
first_runs q k = runs (first_of k q) (gone q (first_of k q) k)

-- the first of the highest class whose bit is on runs, else 0
unfoldable pub chosen : Numbers → Numbers
chosen k =
    let c : ℕ = highest width width (bits k.ready) in
    if ltb c classes then first_runs c k else runs 0 k

-- a running process other than 0 goes to the front of its class
unfoldable pub stood_down : Numbers → Numbers
stood_down k =
    let r : ℕ = k.running in
    if eqb r 0 then k else runs 0 (fronted (class_at k r) r k)

-- p's class is above the running one's, or 0 runs
unfoldable pub is_above : ℕ → Numbers → Bool
is_above p k = eqb k.running 0 || ltb (class_at k k.running) (class_at k p)

-- p runs, and who ran stands down
unfoldable pub preempted : ℕ → Numbers → Numbers
preempted p k = runs p (stood_down k)

-- p gets a full slice, n ticks; it runs if it is above the running one, else it joins the rear of its class
unfoldable pub readied : ℕ → ℕ → Numbers → Numbers
readied n p k =
    let full : Numbers = timed p n k in
    if is_above p k then preempted p full else joined (class_at k p) p full

-- ---- the operations made of these, n ticks to a slice

-- p becomes a process of class c and is made ready, and its number is no longer unused
unfoldable pub created : ℕ → ℕ → ℕ → Numbers → Numbers
created n p c k = marked p false (readied n p (ranked p c k))

-- the first of queue q leaves it and is made ready; nothing changes where the queue is empty
unfoldable pub woken : ℕ → ℕ → Numbers → Numbers
woken n q k =
    let w : ℕ = first_of k q in
    if ltb w processes then readied n w (gone q w k) else k

-- the running process joins the rear of queue q with a full slice, and one is chosen
unfoldable pub went_to : ℕ → ℕ → Numbers → Numbers
went_to n q k = chosen (joined q k.running (timed k.running n k))

-- the running process joins the rear of its class
unfoldable pub yielded : ℕ → Numbers → Numbers
yielded n k = went_to n (class_at k k.running) k

-- the running process joins the rear of class c, if it is of another
unfoldable pub regraded : ℕ → ℕ → Numbers → Numbers
regraded n c k =
    let r : ℕ = k.running in
    if eqb c (class_at k r) then k else went_to n c (ranked r c k)

-- the running process, if it is not 0, has one tick less; with none left it yields
unfoldable pub ticked : ℕ → Numbers → Numbers
ticked n k =
    let r : ℕ = k.running in
    let t : ℕ = ticks_at k r in
    if eqb r 0 then k else (if ltb 1 t then timed r (t - 1) k else yielded n k)

-- p leaves its queue, its block carries zeros, and its number is unused
unfoldable pub removed : ℕ → Numbers → Numbers
removed p k = timed p 0 (ranked p 0 (gone (class_at k p) p (marked p true k)))

-- and one is chosen if p ran
unfoldable pub halted : ℕ → Numbers → Numbers
halted p k = if eqb k.running p then chosen (removed p k) else removed p k
