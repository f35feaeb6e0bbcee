-- The theorems: from the promise, and from what the plain kernel's reasons say.
-- Assumes nothing.
use Prim.Native.Nat.{ℕ}
use mathlib.Core.Bool.{true}
use mathlib.Core.Path.{◌≡◌, refl, sym, ap, ◌∙◌}
use Rattle.std.specs.Prelude.{Option, Some, None}
use Rattle.plain.specs.Names.{bare, names}
use Rattle.plain.specs.State.{State}
use Rattle.plain.specs.Why as Plain
use Rattle.plain.specs.Why.{reason}
use Rattle.plain_laws.proofs.Names.{named as named-number}
use Rattle.plain_laws.proofs.Theorems as Why
use Rattle.promise.proofs.Runs.{meets, agree}
use Rattle.promise.proofs.Theorems.{questions}
use Rattle.kernel.proofs.Theorems.{one_answer}
use Rattle.reasons.specs.Reasons.{meant, meant_by, reason_told}
use Rattle.reasons.specs.Theorems.{OneExplanation, TrueReason, ExplainedAnywhere}
use Rattle.reasons.specs.declared.Reason.{Reason}
use Rattle.reasons.specs.declared.Reason.TheVariants.{Unused, Running, Ready, Mailbox, Semaphore, Behind}

abbrev named : Plain.Reason → Reason
named Plain.unused = Unused
named Plain.running = Running
named (Plain.ready n) = Ready n
named (Plain.mailbox x n) = Mailbox x n
named (Plain.semaphore x n) = Semaphore x n
named (Plain.behind q) = Behind q

named_back : (r : Reason) → named (meant r) ≡ r
named_back Unused = refl
named_back Running = refl
named_back (Ready n) = refl
named_back (Mailbox x n) = refl
named_back (Semaphore x n) = refl
named_back (Behind q) = refl

by_option : (o o' : Option Reason) → meant_by o ≡ meant_by o' → o ≡ o'
by_option o o' e = sym (back o) ∙ ap again e ∙ back o'
  where
    again : Option Plain.Reason → Option Reason
    again (Some r) = Some (named r)
    again None = None

    back : (o : Option Reason) → again (meant_by o) ≡ o
    back (Some r) = ap Some (named_back r)
    back None = refl

pub one_explanation : OneExplanation
one_explanation K Holds k n w w' a b =
    let e = agree Holds (w.reason ≡ w'.reason) a b (λ s x y. by_option w.reason w'.reason (x ∙ sym y)) (λ x y. x ∙ sym y) in
    let answer = one_answer.answer w.answer w'.answer e.0 in
    λ i. record { answer = answer i; reason = e.1 i }

-- by a name the reason is told
pub told-reason : (s : State) (n : ℕ) → names s.births n ≡ true → reason_told s n ≡ Some (reason s (bare n))
unfolding Plain.why
told-reason s n h = rw h

pub true_reason : TrueReason
true_reason K Holds k s n w H S h x =
    let e = (meets Holds x s H S).1 ∙ told-reason s n h in
    let low = (named-number s.births n h).0 in
    (reason s (bare n), e, record { holds = (Why.one-reason).holds s (bare n) S low; only = λ r t. (Why.one-reason).only s (bare n) r S low t })

pub explained_anywhere : ExplainedAnywhere
explained_anywhere K Holds n w = questions Holds _ _ _ _
