-- The theorems about what is told, as statements. Each is proved under its own name in proofs/Theorems.antt.
-- Assumes nothing.
use Rattle.std.specs.Prelude.{ℕ, ◌≤◌, List, ◌≡◌, length, take}
use Rattle.wording.specs.Promises.{room}
use Rattle.telling.specs.Promise.{Told, long}
use Rattle.why.specs.Promise.{Answers}

-- 1. No second text: for one word and one area, what meets the promise is equal.
abbrev pub OneText : Type 0
OneText = (area word old new new' : List ℕ) (r r' : Told) → Answers area word old new r → Answers area word old new' r' → (r ≡ r') × (new ≡ new')

-- 2. An area of so many bytes takes every text.
abbrev pub EveryTextFits : Type 0
EveryTextFits = (area word old new : List ℕ) (r : Told) (a : Answers area word old new r) → room ≤ length old → take (long r) new ≡ a.text
