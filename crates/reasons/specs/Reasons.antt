-- What a reason of the code means, and the promise of the question why a process waits.
-- Assumes nothing.
use Rattle.std.specs.Prelude.{ℕ, ◌≡◌, Option, Some, None, eqb, if◌then◌else◌}
use Rattle.plain.specs.Names.{bare}
use Rattle.plain.specs.State.{State}
use Rattle.plain.specs.Why as Plain
use Rattle.promise.specs.Promise.{Asks}
use Rattle.kernel.specs.Promise.{said}
use Rattle.reasons.specs.declared.Numbers.{Numbers}
use Rattle.reasons.specs.declared.Reason.{Reason}
use Rattle.reasons.specs.declared.Reason.TheVariants.{Unused, Running, Ready, Mailbox, Semaphore, Behind}
use Rattle.reasons.specs.declared.Explained.{Explained}

-- ---- reasons and numbers, as the plain kernel has them

abbrev pub meant : Reason → Plain.Reason
meant Unused = Plain.unused
meant Running = Plain.running
meant (Ready n) = Plain.ready n
meant (Mailbox x n) = Plain.mailbox x n
meant (Semaphore x n) = Plain.semaphore x n
meant (Behind q) = Plain.behind q

abbrev pub given : Plain.Numbers → Numbers
given n = record { kind = n.kind; which = n.which; ahead = n.ahead }

-- ---- the promise

abbrev pub meant_by : Option Reason → Option Plain.Reason
meant_by (Some r) = Some (meant r)
meant_by None = None

-- the plain kernel's reason for the process named n; none where it refuses the question
abbrev pub reason_told : State → ℕ → Option Plain.Reason
reason_told s n = if eqb (Plain.why s n).answer.code 0 then Some (Plain.reason s (bare n)) else None

-- Why the process named n waits is asked of a k and answered with w, a question. Where it is refused there is no reason.
abbrev pub Explains : {K : Type 0} → (K → State → Type 0) → K → ℕ → Explained → Type 0
Explains Holds k n w = Asks Holds (λ s. Plain.why s n) (λ s. meant_by w.reason ≡ reason_told s n) (w.reason ≡ None) k (said w.answer)
