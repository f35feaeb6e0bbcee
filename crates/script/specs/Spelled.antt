-- The bytes that hex pairs spell, and where in its line a message is spelled.
-- Assumes nothing.
use Rattle.std.specs.Prelude.{ℕ, ◌-◌, List, [], ◌∷◌, length, drop}
use Rattle.std.proofs.Math.Option.{Option, none, some}
use Rattle.script.specs.Grammar.{hex_digit, byte}

abbrev pub or_zero : Option ℕ → ℕ
or_zero none = 0
or_zero (some x) = x

-- two digits a byte, 0 where they are none; a last digit alone spells nothing
abbrev pub spelled : List ℕ → List ℕ
spelled [] = []
spelled (x ∷ []) = []
spelled (x ∷ y ∷ l) = or_zero (byte (hex_digit x) (hex_digit y)) ∷ spelled l

-- the last n bytes of a line
abbrev pub lastly : ℕ → List ℕ → List ℕ
lastly n l = drop (length l - n) l
