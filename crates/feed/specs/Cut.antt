-- How bytes are cut into lines. Before a chunk there may be pending bytes: what stands behind the last newline of all that came before.
-- Assumes nothing.
use Rattle.std.specs.Prelude.{ℕ, ◌<◌, List, [], ◌∷◌, ◌++◌, ◌≡◌, eqb, length, get_or, if◌then◌else◌}

abbrev pub newline : ℕ
newline = 10

-- the lines that end in a chunk, where p is pending before it
unfoldable pub ended : List ℕ → List ℕ → List (List ℕ)
ended p [] = []
ended p (x ∷ c) = if eqb x newline then p ∷ ended [] c else ended (p ++ (x ∷ [])) c

-- what is pending after it
unfoldable pub pending : List ℕ → List ℕ → List ℕ
pending p [] = p
pending p (x ∷ c) = if eqb x newline then pending [] c else pending (p ++ (x ∷ [])) c

-- what ends pending bytes where the input ends: a newline; and nothing where none are pending
abbrev pub ending : List ℕ → List ℕ
ending [] = []
ending (x ∷ p) = newline ∷ []

-- "A last line without newline counts; no input, no output"
abbrev pub lines_of : List ℕ → List (List ℕ)
lines_of c = ended [] (c ++ ending (pending [] c))

-- texts as they are written, each followed by a newline
abbrev pub with_newlines : List (List ℕ) → List ℕ
with_newlines [] = []
with_newlines (t ∷ ts) = t ++ (newline ∷ with_newlines ts)

abbrev pub NoNewline : List ℕ → Type 0
NoNewline c = (i : ℕ) → i < length c → get_or c i 0 ≡ newline → ⊥
