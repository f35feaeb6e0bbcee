-- The theorems about the question, as statements over its promise. Each is proved under its own name in proofs/Theorems.antt.
-- Assumes nothing.
use Rattle.std.specs.Prelude.{ℕ, true, ◌≡◌, Some, None}
use Rattle.plain.specs.Names.{bare, names}
use Rattle.plain.specs.Sound.{Sound}
use Rattle.plain.specs.State.{State}
use Rattle.plain.specs.Why as Plain
use Rattle.plain.specs.Why.{Reason, Says}
use Rattle.promise.specs.Asked.{Anywhere}
use Rattle.kernel.specs.Promise.{said}
use Rattle.reasons.specs.declared.Explained.{Explained}
use Rattle.reasons.specs.Reasons.{meant_by, reason_told, Explains}

-- 1. No second answer and no second reason, whatever is asked: of a struct or of an area, sound or not, and by any name.
abbrev pub OneExplanation : Type 1
OneExplanation = (K : Type 0) (Holds : K → State → Type 0) (k : K) (n : ℕ) (w w' : Explained) → Explains Holds k n w → Explains Holds k n w' → w ≡ w'

-- 2. Of a sound state that k holds, the reason that is given for a name, if it is one, is true of the number in it, and no other is.
pub record IsTrue (s : State) (p : ℕ) (r : Reason) : Type 0 where
  pub holds : Says s.procs p r
  pub only : (r' : Reason) → Says s.procs p r' → r' ≡ r

abbrev pub TrueReason : Type 1
TrueReason = (K : Type 0) (Holds : K → State → Type 0) (k : K) (s : State) (n : ℕ) (w : Explained) → Holds k s → Sound s → names s.births n ≡ true → Explains Holds k n w → (r : Reason) × (meant_by w.reason ≡ Some r) × IsTrue s (bare n) r

-- 3. Demand 2 (docs/KERNEL.md): at any moment of a run the plain kernel's answer and reason of the state reached then are given.
abbrev pub ExplainedAnywhere : Type 1
ExplainedAnywhere = (K : Type 0) (Holds : K → State → Type 0) (n : ℕ) (w : Explained) → Anywhere Holds (λ s. Plain.why s n) (λ s. meant_by w.reason ≡ reason_told s n) (w.reason ≡ None) (said w.answer)
