-- Numbers and arrays as bytes, the lowest byte of a number first, and bytes in an area.
-- Assumes nothing.
use Rattle.std.specs.Prelude.{◌≡◌, List, [], ◌∷◌, ◌++◌, ℕ, zero, suc, ◌+◌, ◌≤◌, ◌/◌, ◌%◌, length, take, drop}

abbrev pub byte : ℕ → List ℕ
byte x = x ∷ []

-- the w lowest bytes of a number
abbrev pub le : ℕ → ℕ → List ℕ
le zero x = []
le (suc w) x = x % 256 ∷ le w (x / 256)

-- the bytes of each element, in order
abbrev pub each : {A : Type 0} → (A → List ℕ) → List A → List ℕ
each f [] = []
each f (x ∷ l) = f x ++ each f l

-- these w bytes were put into an area at an offset, which keeps its length. Where they have room, they stand there, behind what stood before; what follows them is left open
pub record Put (at w : ℕ) (bytes area after : List ℕ) : Type 0 where
  pub long : length after ≡ length area
  pub there : at + w ≤ length area → take (at + w) after ≡ take at area ++ bytes

-- these w bytes were got from an area at an offset. Where it has so many, they are those that stand there
pub record Got (at w : ℕ) (bytes area : List ℕ) : Type 0 where
  pub there : at + w ≤ length area → bytes ≡ take w (drop at area)
