-- "Who runs": choose, make ready, and how a process changes its place. A full slice has n ticks, which stand where 01 says 3.
-- Assumes nothing.
use Rattle.std.specs.Prelude.{ℕ, zero, suc, Bool, ◌||◌, List, [], ◌∷◌, ◌++◌, ltb, eqb, if◌then◌else◌}
use Rattle.lists.specs.Lists.{without}
use Rattle.plain.specs.Sizes.{classes}
use Rattle.plain.specs.State.{Procs, level, run, lines, line, rank, left}

-- the first of queue c runs; where the queue is empty, as the other state says
abbrev pub first : ℕ → List ℕ → Procs → Procs → Procs
first c [] s other = other
first c (p ∷ l) s other = run p (line c l s)

-- "the first of the highest class with anyone ready runs, else 0", of the classes below n
unfoldable pub choose_below : ℕ → Procs → Procs
choose_below zero s = run 0 s
choose_below (suc c) s = first c (s.queue c) s (choose_below c s)

unfoldable pub choose : Procs → Procs
choose s = choose_below classes s

-- p joins the rear of queue q with a full slice
unfoldable pub join : ℕ → ℕ → ℕ → Procs → Procs
join n q p s = left p n (line q (s.queue q ++ (p ∷ [])) s)

-- "a running process other than 0 goes to the front of its class with its ticks left"
unfoldable pub stand_down : Procs → Procs
stand_down s =
    let r : ℕ = s.running in
    let c : ℕ = level s r in
    if eqb r 0 then s else run 0 (line c (r ∷ s.queue c) s)

-- p leaves its queue and runs
abbrev pub pick : ℕ → Procs → Procs
pick p s = run p (lines (λ q. without p (s.queue q)) s)

-- "if its class is above the running one's, or 0 runs"
abbrev pub above : ℕ → Procs → Bool
above p s = eqb s.running 0 || ltb (level s s.running) (level s p)

-- "p joins the rear of its class with 3 ticks; if .., p is then chosen, and .."
unfoldable pub make_ready : ℕ → ℕ → Procs → Procs
make_ready n p s =
    let joined : Procs = join n (level s p) p s in
    if above p s then pick p (stand_down joined) else joined

-- the running process joins the rear of queue q with a full slice; choose
unfoldable pub go_to : ℕ → ℕ → Procs → Procs
go_to n q s = choose (run 0 (join n q s.running s))

-- "p leaves its place .. its number unused": its block carries zeros
unfoldable pub remove : ℕ → Procs → Procs
remove p s = left p 0 (rank p 0 (lines (λ q. without p (s.queue q)) s))

-- ".. Choose if it ran."
unfoldable pub halt : ℕ → Procs → Procs
halt p s = if eqb s.running p then choose (run 0 (remove p s)) else remove p s
