-- "The replay desk": what is written for an answer, without the newline.
-- Assumes nothing.
use Rattle.std.specs.Prelude.{ℕ, zero, suc, ◌+◌, ◌-◌, ◌/◌, ◌%◌, List, [], ◌∷◌, ◌++◌, ltb, if◌then◌else◌}
use Prim.Native.Char.{code}
use Rattle.plain.specs.Calls.{Answer}
use Rattle.answers.specs.Ascii.{ascii, space}

abbrev pub digit : ℕ → ℕ
digit d = code "0" + d

-- the digits of n; k bounds how many there are, and n is always enough
unfoldable pub digits_of : ℕ → ℕ → List ℕ
digits_of zero n = digit n ∷ []
digits_of (suc k) n =
    let more : List ℕ = digits_of k (n / 10) ++ (digit (n % 10) ∷ []) in
    if ltb n 10 then digit n ∷ [] else more

unfoldable pub decimal : ℕ → List ℕ
decimal n = digits_of n n

-- "lowercase hex"
abbrev pub hex_of : ℕ → ℕ
hex_of d = if ltb d 10 then digit d else code "a" + (d - 10)

abbrev pub hex_pairs : List ℕ → List ℕ
hex_pairs [] = []
hex_pairs (x ∷ l) = hex_of (x / 16) ∷ hex_of (x % 16) ∷ hex_pairs l

-- "No bytes are written `-` on both sides."
abbrev pub hex : List ℕ → List ℕ
hex [] = ascii "-"
hex (x ∷ l) = hex_pairs (x ∷ l)

abbrev pub answer : ℕ → ℕ → ℕ → Answer
answer code number running = record { code = code; number = number; running = running }

-- "code, number, running, with single spaces"
abbrev pub line : Answer → List ℕ
line a = decimal a.code ++ space ∷ decimal a.number ++ space ∷ decimal a.running

-- "A successful read adds a space and the message in lowercase hex."
abbrev pub read_line : Answer → List ℕ → List ℕ
read_line a message = line a ++ space ∷ hex message

-- "gives `bad`"
abbrev pub bad : List ℕ
bad = ascii "bad"
