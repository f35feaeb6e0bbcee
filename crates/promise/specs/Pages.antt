-- Request 6 over runs of any kernel, where in the store each byte of a message lies: the statement. It is proved under its own name in proofs/Theorems.antt.
-- Assumes nothing.
use Rattle.std.specs.Prelude.{ℕ, ◌+◌, ◌*◌, ◌/◌, ◌%◌, ◌<◌, List, ◌≢◌, ◌≡◌, length, get_or}
use Rattle.plain.specs.Calls as Plain
use Rattle.plain.specs.Mailboxes.{buffers_for}
use Rattle.plain.specs.Sizes.{buffer_size, store_size}
use Rattle.plain.specs.Sound.{Sound}
use Rattle.plain.specs.Start.{Set}
use Rattle.plain.specs.State.{Message, Settings, State, start, Each, InHand}
use Rattle.promise.specs.Promise.{Stored}
use Rattle.promise.specs.Theorems.{Heard, Step, Run}

-- the place of byte i of a message in buffers l: buffer number i / 512 of them, at i % 512
unfoldable pub place : List ℕ → ℕ → ℕ
place l i = buffer_size * get_or l (i / buffer_size) 0 + i % buffer_size

-- each byte of x stands in its place
abbrev pub InPlace : List ℕ → Message → Type 0
InPlace store x = (i : ℕ) → i < length x.bytes → get_or store (place x.lies i) 0 ≡ get_or x.bytes i 0

-- `later` is the store with the bytes of x in their places, and "no other byte of the store" is written
pub record Writes (store : List ℕ) (x : Message) (later : List ℕ) : Type 0 where
  pub there : InPlace later x
  pub elsewhere : (j : ℕ) → ((i : ℕ) → i < length x.bytes → place x.lies i ≢ j) → get_or later j 0 ≡ get_or store j 0

module _ {K : Type 0} (Holds : K → State → Type 0) where
  -- k holds s: its messages are in place, and a send that is done writes its own
  pub record Paged (s : State) (k : K) (store : List ℕ) : Type 0 where
    pub queued : (m : ℕ) → Each (InPlace store) (s.box m)
    pub all_in_hands : (p : ℕ) → InHand (InPlace store) (s.hand p)
    pub sent : (m : ℕ) (b : List ℕ) (h : Heard) (k' : K) (later : List ℕ) → Step Holds k store (Plain.send m b) h k' later → h.0.code ≡ 0 → Writes store (record { lies = buffers_for m b s; bytes = b }) later

  -- so it is after any calls from fresh, and from any k that holds a sound state, with a store that holds its messages
  pub record PagedRuns : Type 1 where
    pub from_fresh : (x : Settings) (k₀ k : K) (store₀ store : List ℕ) (cs : List Plain.Call) (heard : List Heard) → Set x → Holds k₀ (start x) → length store₀ ≡ store_size
        → Run Holds k₀ store₀ cs heard k store → Paged (Plain.after (start x) cs) k store
    pub from_sound : (s : State) (k₀ k : K) (store₀ store : List ℕ) (cs : List Plain.Call) (heard : List Heard) → Holds k₀ s → Sound s → Stored store₀ s
        → Run Holds k₀ store₀ cs heard k store → Paged (Plain.after s cs) k store
