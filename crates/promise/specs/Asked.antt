-- A question, asked where a run has led: the statement. It is proved under its own name in proofs/Theorems.antt.
-- Assumes nothing.
use Rattle.std.specs.Prelude.{ℕ, List, ◌≡◌, length}
use Rattle.plain.specs.Calls as Plain
use Rattle.plain.specs.Sizes.{store_size}
use Rattle.plain.specs.Start.{Set}
use Rattle.plain.specs.State.{Settings, State, start}
use Rattle.promise.specs.Promise.{Asks}
use Rattle.promise.specs.Theorems.{Heard, Run}

module _ {K : Type 0} (Holds : K → State → Type 0) where
  -- it is answered, and leaves its lent areas, as of the plain kernel's state of that moment
  abbrev pub Anywhere : (State → Plain.Outcome) → (State → Type 0) → Type 0 → Plain.Answer → Type 1
  Anywhere f Later Same a = (x : Settings) (k₀ k : K) (store₀ store : List ℕ) (cs : List Plain.Call) (heard : List Heard) → Run Holds k₀ store₀ cs heard k store → Set x → Holds k₀ (start x) → length store₀ ≡ store_size
      → Asks Holds f Later Same k a → (a ≡ (f (Plain.after (start x) cs)).answer) × Later (Plain.after (start x) cs)

  abbrev pub Questions : Type 1
  Questions = (f : State → Plain.Outcome) (Later : State → Type 0) (Same : Type 0) (a : Plain.Answer) → Anywhere f Later Same a
