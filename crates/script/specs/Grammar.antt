-- "The replay desk": which order a line of a script is: a kernel call, request 5's "mailbox" among them, request 1's question why a process waits, or request 3's naming of a slice.
-- A line is the list of its bytes, without the newline. Assumes nothing.
use Rattle.std.specs.Prelude.{ℕ, ◌+◌, ◌*◌, ◌-◌, Bool, true, false, ◌&&◌, List, [], ◌∷◌, length, ltb, leb, eqb, if◌then◌else◌}
use Prim.Native.Char.{code}
use Prim.Native.String.{String}
use Rattle.std.proofs.Math.Option.{Option, none, some}
use Rattle.plain.specs.Calls.{Call, create, stop, end, yield, class, tick, mailbox, send, receive, read, release, signal, wait}
use Rattle.answers.specs.Ascii.{ascii, space}

-- ---- limits

-- "one over 1,300 bytes gives `bad`": by request 6 "lines to 8,600 bytes"
abbrev pub longest_line : ℕ
longest_line = 8600

-- "0 to 65,535"
abbrev pub highest_number : ℕ
highest_number = 65535

-- "up to 600 bytes": by request 6 "up to 4,200 message bytes"
abbrev pub most_bytes : ℕ
most_bytes = 4200

-- "read takes a room size up to 512": by request 6 "rooms to 4,096"
abbrev pub largest_room : ℕ
largest_room = 4096

-- ---- words

-- x before the first of the words
abbrev pub begin : ℕ → List (List ℕ) → List (List ℕ)
begin x [] = (x ∷ []) ∷ []
begin x (w ∷ ws) = (x ∷ w) ∷ ws

-- "One space between words, none elsewhere": the line is cut at every space, so that a doubled, a leading or a trailing one leaves an empty word, which nothing below accepts.
abbrev pub words : List ℕ → List (List ℕ)
words [] = [] ∷ []
words (x ∷ l) = if eqb x space then [] ∷ words l else begin x (words l)

-- "matched as exact bytes"
abbrev pub same : List ℕ → List ℕ → Bool
same [] [] = true
same [] (y ∷ m) = false
same (x ∷ l) [] = false
same (x ∷ l) (y ∷ m) = eqb x y && same l m

-- ---- numbers

abbrev pub is_digit : ℕ → Bool
is_digit x = leb (code "0") x && leb x (code "9")

-- "Numbers are decimal": what the digits mean where those before them mean v
abbrev pub digits : ℕ → List ℕ → Option ℕ
digits v [] = some v
digits v (x ∷ l) = if is_digit x then digits (v * 10 + (x - code "0")) l else none

-- "no leading zero": none before another digit
abbrev pub leading_zero : List ℕ → Bool
leading_zero [] = false
leading_zero (x ∷ []) = false
leading_zero (x ∷ y ∷ l) = eqb x (code "0")

abbrev pub up_to : ℕ → Option ℕ → Option ℕ
up_to k none = none
up_to k (some n) = if leb n k then some n else none

-- "Numbers are decimal, 0 to 65,535, no leading zero"
abbrev pub number : List ℕ → Option ℕ
number [] = none
number (x ∷ l) = if leading_zero (x ∷ l) then none else up_to highest_number (digits 0 (x ∷ l))

-- ---- bytes

-- "lowercase hex"
abbrev pub hex_digit : ℕ → Option ℕ
hex_digit x = if is_digit x then some (x - code "0") else if leb (code "a") x && leb x (code "f") then some (x - code "a" + 10) else none

abbrev pub byte : Option ℕ → Option ℕ → Option ℕ
byte none l = none
byte (some h) none = none
byte (some h) (some l) = some (h * 16 + l)

abbrev pub prepend : Option ℕ → Option (List ℕ) → Option (List ℕ)
prepend none b = none
prepend (some x) none = none
prepend (some x) (some b) = some (x ∷ b)

-- "hex pairs"
abbrev pub pairs : List ℕ → Option (List ℕ)
pairs [] = some []
pairs (x ∷ []) = none
pairs (x ∷ y ∷ l) = prepend (byte (hex_digit x) (hex_digit y)) (pairs l)

abbrev pub at_most : ℕ → Option (List ℕ) → Option (List ℕ)
at_most k none = none
at_most k (some b) = if leb (length b) k then some b else none

-- "as lowercase hex pairs. No bytes are written `-`"
abbrev pub bytes : List ℕ → Option (List ℕ)
bytes [] = none
bytes (x ∷ l) = if same (x ∷ l) (ascii "-") then some [] else at_most most_bytes (pairs (x ∷ l))

-- ---- orders: "create, stop, end, yield, class, tick, send, receive, read, release, signal, wait", request 1's "why", request 3's "slice", and request 5's "mailbox"

-- What a line asks of the desk: a kernel call, why a process waits, or a fresh start with so many ticks to a slice. Whether a line may name the slice is the desk's matter.
pub data Order : Type 0 where
  does : Call → Order
  why : ℕ → Order
  slice : ℕ → Order

-- what stands beside w in a list of words, and none where w is not in it
abbrev pub beside : List ℕ → List (String × Option Order) → Option Order
beside w [] = none
beside w (x ∷ l) = if same w (ascii x.0) then x.1 else beside w l

-- what is made of what was read, where it was
abbrev pub given : {A : Type 0} → Option A → (A → Option Order) → Option Order
given none f = none
given (some x) f = f x

-- the words that stand alone
abbrev pub alone : List (String × Option Order)
alone =
    ("end", some (does end))
    ∷ ("yield", some (does yield))
    ∷ ("tick", some (does tick))
    ∷ ("release", some (does release))
    ∷ []

abbrev pub reading : ℕ → Option Order
reading n = if leb n largest_room then some (does (read n)) else none

-- the words that take a number
abbrev pub numbered : ℕ → List (String × Option Order)
numbered n =
    ("create", some (does (create n)))
    ∷ ("stop", some (does (stop n)))
    ∷ ("class", some (does (class n)))
    ∷ ("receive", some (does (receive n)))
    ∷ ("read", reading n)
    ∷ ("signal", some (does (signal n)))
    ∷ ("wait", some (does (wait n)))
    ∷ ("why", some (why n))
    ∷ ("slice", some (slice n))
    ∷ []

-- the words that take a number and one thing more: "send takes a mailbox and" bytes
abbrev pub followed : ℕ → List ℕ → List (String × Option Order)
followed n x =
    ("send", given (bytes x) (λ b. some (does (send n b))))
    ∷ []

-- the words that take three numbers: mailbox takes a mailbox, a capacity and a mode
abbrev pub thrice : ℕ → ℕ → ℕ → List (String × Option Order)
thrice a b c =
    ("mailbox", some (does (mailbox a b c)))
    ∷ []

abbrev pub of_two : List ℕ → List ℕ → Option Order
of_two w x = given (number x) (λ n. beside w (numbered n))

abbrev pub of_three : List ℕ → List ℕ → List ℕ → Option Order
of_three w x y = given (number x) (λ n. beside w (followed n y))

abbrev pub of_four : List ℕ → List ℕ → List ℕ → List ℕ → Option Order
of_four w x y z = given (number x) (λ a. given (number y) (λ b. given (number z) (λ c. beside w (thrice a b c))))

abbrev pub sentence : List (List ℕ) → Option Order
sentence [] = none
sentence (w ∷ []) = beside w alone
sentence (w ∷ x ∷ []) = of_two w x
sentence (w ∷ x ∷ y ∷ []) = of_three w x y
sentence (w ∷ x ∷ y ∷ z ∷ []) = of_four w x y z
sentence (w ∷ x ∷ y ∷ z ∷ v ∷ l) = none

-- Which order a line is. "Any other line .. gives `bad`": those are none.
unfoldable pub order : List ℕ → Option Order
order line = if ltb longest_line (length line) then none else sentence (words line)
