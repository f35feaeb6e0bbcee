-- The words in which the private functions promise what they give.
-- Assumes nothing.
use Rattle.std.specs.Prelude as Code
use Rattle.std.specs.Prelude.{ℕ, List, [], ◌∷◌, length}
use Rattle.std.proofs.Math.Option.{Option, none, some}
use Rattle.plain.specs.Calls.{send}
use Rattle.script.specs.Grammar.{Order, does, given, up_to, digits, highest_number, byte, hex_digit, bytes}

-- what was read, or not, as the code has it
abbrev pub number_of : Option ℕ → Code.Option ℕ
number_of none = Code.None
number_of (some n) = Code.Some n

-- the number that v and one more digit mean
abbrev pub next_digit : ℕ → ℕ → Option ℕ
next_digit v x = up_to highest_number (digits v (x ∷ []))

-- the byte that the first two digits spell
abbrev pub pair_at : List ℕ → Option ℕ
pair_at [] = none
pair_at (x ∷ []) = none
pair_at (x ∷ y ∷ l) = byte (hex_digit x) (hex_digit y)

-- how many bytes were read, or none, as the code has it
abbrev pub counted : Option (List ℕ) → Code.Option ℕ
counted none = Code.None
counted (some b) = Code.Some (length b)

-- the send of the bytes that a word spells
abbrev pub sending : ℕ → List ℕ → Option Order
sending m x = given (bytes x) (λ b. some (does (send m b)))
