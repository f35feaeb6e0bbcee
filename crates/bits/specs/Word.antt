-- A word as one bit for each number below its width.
-- Assumes nothing.
use Rattle.std.specs.Prelude.{ℕ, zero, suc, ◌+◌, ◌*◌, ◌/◌, ◌%◌, ◌^◌, Bool, true, false, eqb, if◌then◌else◌}

-- how many bits a u32 has
abbrev pub width : ℕ
width = 32

abbrev pub bit : Bool → ℕ
bit true = 1
bit false = 0

-- the number whose bits are those of the numbers below n that pass the test
unfoldable pub word : ℕ → (ℕ → Bool) → ℕ
word zero t = 0
word (suc n) t = bit (t 0) + 2 * word n (λ i. t (suc i))

-- bit i of a number
unfoldable pub bits : ℕ → ℕ → Bool
bits w i = eqb (w / 2 ^ i % 2) 1

-- the highest of the numbers below n that passes the test, or d where none does
unfoldable pub highest : ℕ → ℕ → (ℕ → Bool) → ℕ
highest zero d t = d
highest (suc n) d t = if t n then n else highest n d t
