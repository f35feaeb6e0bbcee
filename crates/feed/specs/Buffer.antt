-- What the line buffer says of the line that is being read.
-- Assumes nothing.
use Rattle.std.specs.Prelude.{ℕ, ◌≤◌, ◌<◌, List, ◌≡◌, leb, length, take, Option, None, Some, IfSome, if◌then◌else◌}
use Rattle.script.specs.Grammar.{longest_line}

-- what is told of any line over the longest
abbrev pub TooLong : Option ℕ → Type 0
TooLong None = Unit {0}
TooLong (Some n) = longest_line < n

-- The line so far is l: the first n bytes of the buffer are the whole of it, or it is over the longest line and that is what is told. The bytes behind those are scratch.
pub data HoldsLine (l buffer : List ℕ) : Option ℕ → Type 0 where
  whole : {n : ℕ} → n ≤ longest_line → n ≡ length l → take n buffer ≡ l → HoldsLine l buffer (Some n)
  long : {n : Option ℕ} → TooLong n → longest_line < length l → HoldsLine l buffer n

-- none for every number over the longest line
abbrev pub told : Option ℕ → Option ℕ
told None = None
told (Some n) = if leb n longest_line then Some n else None

-- no such number is told
abbrev pub Told : Option ℕ → Type 0
Told n = IfSome n (λ m. m ≤ longest_line)
