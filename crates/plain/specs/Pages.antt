-- Request 6, a page in a single message: "0 to 4,096 bytes over as many 512-byte buffers as needed, one at least, lowest free first".
-- Assumes nothing.
use Rattle.std.specs.Prelude.{ℕ, suc, ◌-◌, ◌/◌, ◌≤◌, Bool, List, ◌≡◌, ltb, length, take}
use Rattle.plain.specs.Sizes.{buffer_size, longest}
use Rattle.plain.specs.State.{Message, State, free_buffers}

-- how many buffers n bytes need: "one at least"
unfoldable pub needed : ℕ → ℕ
needed n = suc ((n - 1) / buffer_size)

-- "lowest free first"
abbrev pub lowest_free : ℕ → State → List ℕ
lowest_free n s = take n (free_buffers s)

-- "fewer buffers are free than the message needs"
abbrev pub too_few : ℕ → State → Bool
too_few n s = ltb (length (free_buffers s)) n

-- What is sound of a message: it is no longer than a message may be, and has as many buffers as it needs.
pub record Whole (x : Message) : Type 0 where
  pub short : length x.bytes ≤ longest
  pub many : length x.lies ≡ needed (length x.bytes)
