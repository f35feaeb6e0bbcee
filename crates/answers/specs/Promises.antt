-- What the private functions promise by: the room of a text.
-- Assumes nothing.
use Rattle.std.specs.Prelude.{ℕ}

-- three numbers of ten digits, three spaces and a dash
abbrev pub text_room : ℕ
text_room = 34
