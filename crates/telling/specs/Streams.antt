-- What a stream gives as a whole, where the bytes that it has left are known.
-- Assumes nothing.
use Rattle.std.specs.Prelude.{ℕ, ◌≤◌, List, Option, Some, None, ◌≡◌, length, take, drop, min}

-- got bytes were read, as many of those that were left as the area takes: they stand at its start, and the others are left
abbrev pub Fills : Option (List ℕ) → Option (List ℕ) → List ℕ → ℕ → Type 0
Fills None new area got = Unit {0}
Fills (Some xs) new area got = (got ≡ min (length area) (length xs)) × (take got area ≡ take got xs) × (new ≡ Some (drop got xs))

-- the bytes that are left no more stand at the start of the area
abbrev pub LosesNone : Option (List ℕ) → Option (List ℕ) → List ℕ → Type 0
LosesNone None new area = Unit {0}
LosesNone (Some xs) new area = (got : ℕ) × (got ≤ length area) × (take got area ≡ take got xs) × (new ≡ Some (drop got xs))
