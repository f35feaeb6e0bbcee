-- How processes stand, read off numbers.
-- Total: for any numbers. Assumes nothing.
use Rattle.std.specs.Prelude.{ℕ, List, get_or}
use Rattle.queues.specs.Lines.{line}
use Rattle.plain.specs.State.{Procs}

-- who runs, the class of each process and the ticks left to each, and the links on of the queues
unfoldable pub seated : ℕ → List ℕ → List ℕ → List ℕ → Procs
seated running class ticks next = record { running = running; queue = line next; class = λ p. get_or class p 0; ticks = λ p. get_or ticks p 0 }
