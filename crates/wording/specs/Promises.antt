-- The words in which the private functions promise what they give: a text that grows at its end, as far as there is room.
-- Assumes nothing.
use Rattle.std.specs.Prelude.{ℕ, ◌^◌, ◌<◌, List, ◌++◌, take}
use Rattle.plain.specs.Why.{Reason, numbers}

abbrev pub room : ℕ
room = 96

-- a text, and then l, as far as there is room for so many bytes
unfoldable pub cut : ℕ → List ℕ → List ℕ → List ℕ
cut room s l = take room (s ++ l)

-- in a line
abbrev pub more : List ℕ → List ℕ → List ℕ
more s l = cut room s l

-- the numbers of a reason are bytes
abbrev pub Small : Reason → Type 0
Small r = ((numbers r).which < 2 ^ 8) × ((numbers r).ahead < 2 ^ 8)
