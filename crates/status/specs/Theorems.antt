-- The theorems about what is told, as statements. Each is proved under its own name in proofs/Theorems.antt.
-- Assumes nothing.
use Rattle.std.specs.Prelude.{ℕ, ◌≤◌, List, ◌≡◌, length, take}
use Rattle.telling.specs.Promise.{Told, long}
use Rattle.wording.specs.Page.{page_room}
use Rattle.status.specs.Promise.{Answers}

-- 1. No second text: for one area, what meets the promise is equal.
abbrev pub OneText : Type 0
OneText = (area old new new' : List ℕ) (r r' : Told) → Answers area old new r → Answers area old new' r' → (r ≡ r') × (new ≡ new')

-- 2. An area of so many bytes takes every text.
abbrev pub EveryTextFits : Type 0
EveryTextFits = (area old new : List ℕ) (r : Told) (a : Answers area old new r) → page_room ≤ length old → take (long r) new ≡ a.text
