-- Request 10 over runs of any kernel, that nobody barges in: the statement. It is proved under its own name in proofs/Theorems.antt.
-- Assumes nothing.
use Rattle.std.specs.Prelude.{ℕ, false, List, [], ◌∷◌, ◌≡◌, length}
use Rattle.plain.specs.Calls as Plain
use Rattle.plain.specs.Sizes.{store_size}
use Rattle.plain.specs.Sound.{Sound}
use Rattle.plain.specs.Start.{Set}
use Rattle.plain.specs.State.{Procs, Settings, State, start}
use Rattle.plain_laws.specs.Waiters.{Handover, NobodyBarges}
use Rattle.promise.specs.Promise.{in_store, Stored}
use Rattle.promise.specs.Theorems.{Heard, Seats, Run, moment_of}

module _ {K : Type 0} (Holds : K → State → Type 0) where
  -- by k and the store p has a message of bytes b in hand: those that a read would copy
  abbrev pub Grasps : K → List ℕ → ℕ → List ℕ → Type 0
  Grasps k store p b = (s : State) × Holds k s × (Plain.is_empty (s.hand p) ≡ false) × (in_store store (s.hand p) ≡ b)

  -- the handovers of a run
  abbrev pub handed : {k k' : K} {store store' : List ℕ} {cs : List Plain.Call} {heard : List Heard} → (K → Procs) → Run Holds k store cs heard k' store' → List Handover
  handed seating Run.stop = []
  handed seating (Run.call {k} {k₁} {store₁ = store₁} {c = c} {h} p rest) = record { moment = moment_of Holds seating k c h k₁; in_hand = Grasps k₁ store₁ } ∷ handed seating rest
  handed seating (Run.ask f Later Same a p rest) = handed seating rest

  -- After any calls from fresh nobody barges in, whatever is called then; and so from any k that holds a sound state, with a store that holds its messages.
  pub record InTurn (seating : K → Procs) : Type 1 where
    pub from_fresh : (x : Settings) (k₀ k k' : K) (store₀ store store' : List ℕ) (cs later : List Plain.Call) (heard heard' : List Heard) → Set x → Holds k₀ (start x) → length store₀ ≡ store_size
        → Run Holds k₀ store₀ cs heard k store → (on : Run Holds k store later heard' k' store') → NobodyBarges (seating k) (handed seating on)
    pub from_sound : (s : State) (k k' : K) (store store' : List ℕ) (later : List Plain.Call) (heard : List Heard) → Holds k s → Sound s → Stored store s
        → (on : Run Holds k store later heard k' store') → NobodyBarges (seating k) (handed seating on)

  abbrev pub OrderlyRuns : Type 1
  OrderlyRuns = (seating : K → Procs) → Seats Holds seating → InTurn seating
