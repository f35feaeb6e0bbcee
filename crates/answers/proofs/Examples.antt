-- The answers of document 01's sample, and other lines that are written, computed.
-- Assumes nothing.
use Prim.Native.Nat.{ℕ}
use Prim.Native.String.{String}
use mathlib.Core.Path.{◌≡◌, refl}
use mathlib.Core.List.{List, [], ◌∷◌, map}
use Rattle.answers.specs.Ascii.{ascii}
use Rattle.answers.specs.Answer.{digits_of, decimal, answer, line, read_line}

answers : List (List ℕ × String)
answers =
    (line (answer 0 1 1), "0 1 1")
    ∷ (line (answer 9 3 1), "9 3 1")
    ∷ (line (answer 32 0 0), "32 0 0")
    ∷ (line (answer 10 100 4294967295), "10 100 4294967295")
    ∷ (read_line (answer 0 3 1) (ascii "ABC"), "0 3 1 414243")
    ∷ (read_line (answer 0 2 31) (0 ∷ 255 ∷ []), "0 2 31 00ff")
    ∷ (read_line (answer 0 0 1) [], "0 0 1 -")
    ∷ []

answers-written : map (λ (x : List ℕ × String). x.0) answers ≡ map (λ (x : List ℕ × String). ascii x.1) answers
unfolding answers digits_of decimal
answers-written = refl
