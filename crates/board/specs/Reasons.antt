-- The promise of the question why a process waits, over the state area and with the reason in numbers.
-- Assumes nothing.
use Rattle.std.specs.Prelude.{ℕ, List, ◌≡◌, Option, Some, None}
use Rattle.plain.specs.Calls.{Answer}
use Rattle.plain.specs.Why as Plain
use Rattle.promise.specs.Promise.{Asks}
use Rattle.board.specs.Area.{Lies}
use Rattle.board.specs.declared.Reasoned.{Reasoned}

-- the answer of r, and the numbers of its reason
abbrev pub answer_of : Reasoned → Answer
answer_of r = record { code = r.code; number = r.number; running = r.running }

abbrev pub numbers_of : Reasoned → Plain.Numbers
numbers_of r = record { kind = r.kind; which = r.which; ahead = r.ahead }

-- why the process named n waits
abbrev pub Reasons : List ℕ → ℕ → Reasoned → Type 0
Reasons area n r = Asks Lies (λ s. Plain.why s n) (λ s. numbers_of r ≡ Plain.numbers (Plain.told s n)) (numbers_of r ≡ Plain.numbers Plain.unused) area (answer_of r)

-- ---- inside

-- the numbers of a reason, or zeros
abbrev pub numbers_or_zeros : Option Plain.Reason → Plain.Numbers
numbers_or_zeros (Some r) = Plain.numbers r
numbers_or_zeros None = Plain.numbered 0 0 0
