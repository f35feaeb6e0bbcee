-- Who stands in a queue, from first to last, read off the links on.
-- Total: for any links and any queue number. Assumes nothing.
use Rattle.std.specs.Prelude.{ℕ, zero, suc, ◌+◌, List, [], ◌∷◌, ltb, get_or, if◌then◌else◌}
use Rattle.queues.specs.Queue.{processes, queues}

-- on along the links from a node, through processes, to one that is none; at most so many
unfoldable pub onward : List ℕ → ℕ → ℕ → List ℕ
onward next zero node = []
onward next (suc steps) node = if ltb node processes then node ∷ onward next steps (get_or next node 0) else []

-- from the head of queue q
unfoldable pub line : List ℕ → ℕ → List ℕ
line next q = if ltb q queues then onward next processes (get_or next (processes + q) 0) else []
