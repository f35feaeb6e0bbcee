-- Laws of what is written: the digits of a number are those that std prints, and how long a line can be.
-- Assumes nothing.
use Prim.Native.Nat.{ℕ, zero, suc, ◌+◌, ◌/◌, ◌%◌, ◌^◌, ◌≤◌, ◌<◌}
use mathlib.Core.Path.{◌≡◌, refl}
use mathlib.Core.Bool.{Bool, true, false}
use mathlib.Core.List.{List, [], ◌∷◌, ◌++◌}
use native.Mathlib.Omega.{arith}
use lib.ListN.{length, length-append}
use lib.Dec.{ltb}
use borrow.Author.Tests.{ltb-true, ltb-false}
use Rattle.std.specs.Prelude.{if◌then◌else◌}
use Rattle.std.specs.Fmt.{decimal as printed}
use Rattle.std.proofs.lemmas.Fmt.{decimal_digit, decimal_step, length-decimal-le}
use Rattle.plain.specs.Calls.{Answer}
use Rattle.answers.specs.Answer.{digit, digits_of, decimal, hex, line, read_line}
use Rattle.answers.specs.Ascii.{space}
use Rattle.answers.specs.Promises.{text_room}
use Rattle.answers.proofs.AreaLaws.{pairs-length}

-- ---- digits

-- the digits of n, with k enough for them, are what std prints
digits_printed : (k n : ℕ) → n ≤ k → n < 2 ^ 64 → digits_of k n ≡ printed n
unfolding digits_of
digits_printed zero n enough h = rw (decimal_digit n (omega arith)) refl
digits_printed (suc k) n enough h = go (ltb n 10) refl (λ l. digits_printed k (n / 10) (omega arith) (omega arith))
  where
    go : (t : Bool) → ltb n 10 ≡ t → (10 ≤ n → digits_of k (n / 10) ≡ printed (n / 10)) → (if t then digit n ∷ [] else digits_of k (n / 10) ++ (digit (n % 10) ∷ [])) ≡ printed n
    go true e front = rw (decimal_digit n (ltb-true n 10 e)) refl
    go false e front = rw (front (ltb-false n 10 e), decimal_step n (ltb-false n 10 e) h) refl

pub decimal_printed : (n : ℕ) → n < 2 ^ 64 → decimal n ≡ printed n
unfolding decimal
decimal_printed n h = digits_printed n n (omega arith) h

-- a number below a power of ten has no more digits than that
pub decimal_within : (k n : ℕ) → 0 < k → n < 10 ^ k → n < 2 ^ 64 → length (decimal n) ≤ k
decimal_within k n some below h = rw (decimal_printed n h) (length-decimal-le k n some below h)

-- a number of 32 bits has at most ten digits
pub decimal_short : (n : ℕ) → n < 2 ^ 32 → length (decimal n) ≤ 10
decimal_short n h = decimal_within 10 n (omega arith) (omega arith) (omega arith)

-- a byte has at most three
pub byte_short : (n : ℕ) → n < 2 ^ 8 → length (decimal n) ≤ 3
byte_short n h = decimal_within 3 n (omega arith) (omega arith) (omega arith)

-- ---- how long a line can be

pub line_short : (a : Answer) → a.code < 2 ^ 32 → a.number < 2 ^ 32 → a.running < 2 ^ 32 → length (line a) ≤ 32
line_short a c n r = simp length-append (omega (arith, decimal_short a.code c, decimal_short a.number n, decimal_short a.running r))

hex_short : (l : List ℕ) → length (hex l) ≤ length l + length l + 1
hex_short [] = omega arith
hex_short (x ∷ l) = omega (arith, pairs-length (x ∷ l))

pub read_line_short : (a : Answer) (m : List ℕ) → a.code < 2 ^ 32 → a.number < 2 ^ 32 → a.running < 2 ^ 32 → length (read_line a m) ≤ text_room + (length m + length m)
read_line_short a m c n r = rw (length-append (line a) (space ∷ hex m)) (omega (arith, line_short a c n r, hex_short m))
