-- What is seen of a run are the plain kernel's moments.
-- Assumes nothing.
use Prim.Native.Nat.{ℕ}
use mathlib.Core.List.{List, ◌∷◌}
use mathlib.Core.Path.{◌≡◌, refl}
use Rattle.plain.specs.Calls as Plain
use Rattle.plain.specs.State.{Procs, State}
use Rattle.plain_laws.specs.History.{moments}
use Rattle.promise.specs.Theorems.{Heard, Seats, Run, Along, seen}
use Rattle.promise.proofs.Runs.{along-first}

module _ {K : Type 0} (Holds : K → State → Type 0) (seating : K → Procs) (seats : Seats Holds seating) where
  pub sees : {k k' : K} {store store' : List ℕ} {cs : List Plain.Call} {heard : List Heard} (s : State) (run : Run Holds k store cs heard k' store') → Along Holds s run → heard ≡ Plain.answers s cs → seen Holds seating run ≡ moments s cs
  unfolding moments Plain.answers
  sees s Run.stop a e = refl
  sees s (Run.call {k} {k₁} {c = c} {h} {cs} {heard} p rest) a e =
      let o : Plain.Outcome = Plain.step s c in
      let first : h ≡ (o.answer, o.message) = cc in
      let others : heard ≡ Plain.answers o.next cs = cc in
      let ih = sees o.next rest a.1 others in
      λ i. record { from = seats k s a.0 i; call = c; answer = (first i).0; to = seats k₁ o.next (along-first Holds rest a.1) i } ∷ ih i
  sees s (Run.ask f Later Same b p rest) a e = sees s rest a.3 e
