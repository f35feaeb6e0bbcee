-- Request 4 over runs of any kernel: the statement. It is proved under its own name in proofs/Theorems.antt.
-- Assumes nothing.
use Rattle.std.specs.Prelude.{ℕ, List, ◌≡◌, length}
use Rattle.plain.specs.Calls as Plain
use Rattle.plain.specs.Names.{bare}
use Rattle.plain.specs.Sizes.{store_size}
use Rattle.plain.specs.Start.{Set}
use Rattle.plain.specs.State.{Procs, Settings, State, start}
use Rattle.plain_laws.specs.Names.{Fate}
use Rattle.promise.specs.Theorems.{Heard, Seats, Step, Run, seen}

-- After any calls from fresh a create is heard with 0 and a number, n; what follows is a run. Births and stops are counted off its k, and the last of them holds a state of which the fate of n is said.
abbrev pub NamedRuns : {K : Type 0} → (K → State → Type 0) → Type 1
NamedRuns {K} Holds = (seating : K → Procs) → Seats Holds seating
    → (x : Settings) (k₀ k k₁ k₂ : K) (store₀ store store₁ store₂ : List ℕ) (cs later : List Plain.Call) (heard heard' : List Heard) (c : ℕ) (h : Heard)
    → Set x → Holds k₀ (start x) → length store₀ ≡ store_size → Run Holds k₀ store₀ cs heard k store
    → Step Holds k store (Plain.create c) h k₁ store₁ → h.0.code ≡ 0 → (on : Run Holds k₁ store₁ later heard' k₂ store₂)
    → let s : State = Plain.after (start x) cs in
    let t : State = Plain.after (Plain.step s (Plain.create c)).next later in
    let n : ℕ = h.0.number in
    Holds k s × Holds k₂ t × Fate s n (bare n) (seen Holds seating on) t
