-- Any two kernels, whatever their states are made of, answer the same: the statement. It is proved under its own name in proofs/Theorems.antt.
-- Assumes nothing.
use Rattle.std.specs.Prelude.{ℕ, List, ◌≡◌, length}
use Rattle.plain.specs.Calls as Plain
use Rattle.plain.specs.Sizes.{store_size}
use Rattle.plain.specs.Start.{Set}
use Rattle.plain.specs.State.{Settings, State, start}
use Rattle.promise.specs.Promise.{Stored}
use Rattle.promise.specs.Theorems.{Heard, Run}

-- for every sequence, and end holding one state, each with a store that holds its messages
module _ {K K' : Type 0} (Holds : K → State → Type 0) (Holds' : K' → State → Type 0) where
  pub record Agree (heard heard' : List Heard) (k : K) (k' : K') (store store' : List ℕ) : Type 0 where
    pub answers : heard ≡ heard'
    pub state : State
    pub left : Holds k state × Stored store state
    pub right : Holds' k' state × Stored store' state

  abbrev pub TwoKernels : Type 1
  TwoKernels = (x : Settings) (k₀ k : K) (k₀' k' : K') (store₀ store₀' store store' : List ℕ) (cs : List Plain.Call) (heard heard' : List Heard)
      → Set x → Holds k₀ (start x) → Holds' k₀' (start x) → length store₀ ≡ store_size → length store₀' ≡ store_size
      → Run Holds k₀ store₀ cs heard k store → Run Holds' k₀' store₀' cs heard' k' store' → Agree heard heard' k k' store store'
