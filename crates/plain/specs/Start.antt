-- The fresh start, a call of its own: request 3's "A fresh kernel takes the slice as a setting".
-- Assumes nothing.
use Rattle.std.specs.Prelude.{ℕ, ◌≤◌, ◌||◌, List, [], ◌∷◌, ltb, eqb}
use Rattle.plain.specs.State.{Settings, start, usual, fresh}
use Rattle.plain.specs.Mailboxes.{Habits}
use Rattle.plain.specs.Calls.{Refusal, on, Outcome, done, judge}

-- "the slice as a setting, 1 to 255"
unfoldable pub longest_slice : ℕ
longest_slice = 255

pub record Set (settings : Settings) : Type 0 where
  pub some_ticks : 1 ≤ settings.slice
  pub not_over : settings.slice ≤ longest_slice
  pub habits : Habits settings.capacity settings.mode

-- where n ticks are named
abbrev pub slice_of : ℕ → Settings
slice_of n = record { slice = n; capacity = usual.capacity; mode = usual.mode }

-- "16 for a slice outside 1 to 255"
abbrev pub no_slice : ℕ → Refusal
no_slice n = on 16 (eqb n 0 || ltb longest_slice n)

-- 14 is judged before it
abbrev pub start_refusals : ℕ → List Refusal
start_refusals n = no_slice n ∷ []

-- It looks at no state, so that 0 runs in every answer; "if refused, 5 holds".
unfoldable pub fresh_start : ℕ → Outcome
fresh_start n = judge (start_refusals n) fresh (done 0 (start (slice_of n)))
