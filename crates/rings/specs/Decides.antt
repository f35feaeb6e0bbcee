-- When an answer, yes or no, decides a question: the promise of every function that tests something.
-- Assumes nothing.
use Rattle.std.specs.Prelude.{Bool, true, false}

-- yes: P holds; no: it does not. By cases, where the one of this name in std is a pair of implications: the two say the same.
abbrev pub Decides : Bool → Type 0 → Type 0
Decides true P = P
Decides false P = P → ⊥
