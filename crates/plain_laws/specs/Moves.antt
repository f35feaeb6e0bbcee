-- Every accepted call is a chain of moves, each of one process, then settling who runs. The laws go by cases on moves, not on calls.
-- Assumes nothing.
use Rattle.std.specs.Prelude.{ℕ, suc, ◌≤◌, ◌<◌, ◌≡◌, ◌≢◌, [], ◌∷◌, ◌++◌, eqb, if◌then◌else◌}
use Rattle.lists.specs.Lists.{occurs, without}
use Rattle.plain.specs.Sizes.{processes, classes, queues}
use Rattle.plain.specs.State.{Procs, level, run, lines, line, rank, left, places}
use Rattle.plain.specs.Runs.{choose, stand_down}

-- A runner with nobody above it stands down, is chosen again and leaves no trace.
unfoldable pub settle : Procs → Procs
settle s = choose (stand_down s)

-- who runs once p has left
abbrev pub rid : ℕ → ℕ → ℕ
rid r p = if eqb r p then 0 else r

-- p leaves its place, the processor or a queue, and has class c and t ticks
unfoldable pub leave : ℕ → ℕ → ℕ → Procs → Procs
leave p c t s = left p t (rank p c (lines (λ q. without p (s.queue q)) (run (rid s.running p) s)))

-- p leaves its place for the rear of queue q
unfoldable pub to_rear : ℕ → ℕ → ℕ → ℕ → Procs → Procs
unfolding leave
to_rear q p c t s = line q (without p (s.queue q) ++ (p ∷ [])) (leave p c t s)

-- p is not ready
abbrev pub Away : Procs → ℕ → Type 0
Away s p = (c : ℕ) → c < classes → occurs p (s.queue c) ≡ 0

-- A move, where a full slice has n ticks, and how many ticks fall with it.
pub data Move (n : ℕ) (s : Procs) : ℕ → Procs → Type 0 where
  stay : Move n s 0 s
  idle : s.running ≡ 0 → Move n s 1 s
  spend : (t : ℕ) → s.running ≢ 0 → s.ticks s.running ≡ suc (suc t) → Move n s 1 (left s.running (suc t) s)
  again : s.running ≢ 0 → Move n s 1 (to_rear (level s s.running) s.running (s.class s.running) n s)
  rear : (p c : ℕ) → 1 ≤ p → p < processes → Away s p → c < classes → Move n s 0 (to_rear c p c n s)
  pause : (q : ℕ) → s.running ≢ 0 → classes ≤ q → q < queues → Move n s 0 (to_rear q s.running (s.class s.running) n s)
  halt : (p : ℕ) → 1 ≤ p → Move n s 0 (leave p 0 0 s)

-- The moves that follow a first one. No tick falls with them, and they take no number into use: who is stopped midway stays so.
pub data Others (n : ℕ) : Procs → Procs → Type 0 where
  none : {s : Procs} → Others n s s
  also : {s m s' : Procs} → Move n s 0 m → ((p : ℕ) → 1 ≤ p → places s p ≡ 0 → places m p ≡ 0) → Others n m s' → Others n s s'

-- A chain of moves, and how many ticks fall with the first.
pub record Chain (n : ℕ) (s : Procs) (d : ℕ) (s' : Procs) : Type 0 where
  pub midway : Procs
  pub first : Move n s d midway
  pub others : Others n midway s'
