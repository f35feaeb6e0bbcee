-- Request 5, mailboxes with their own size and habit: "Meter readings push out stale ones; rider text never may."
-- Assumes nothing.
use Rattle.std.specs.Prelude.{ℕ, ◌≤◌, Bool, not, ◌&&◌, ◌||◌, ◌≡◌, List, ltb, leb, eqb, length, drop, if◌then◌else◌}
use Rattle.lists.specs.Lists.{put, someone}
use Rattle.plain.specs.Sizes.{mailboxes, at_mailbox}
use Rattle.plain.specs.State.{Settings, State, usual, fill}
use Rattle.plain.specs.Pages.{needed, lowest_free, too_few}

-- "a capacity of 1 to 32"
unfoldable pub most_queued : ℕ
most_queued = 32

-- mailbox m takes c messages and is of mode d
abbrev pub allotted : ℕ → ℕ → ℕ → Settings → Settings
allotted m c d x = record { slice = x.slice; capacity = put x.capacity m c; mode = put x.mode m d }

abbrev pub allot : ℕ → ℕ → ℕ → State → State
allot m c d s = record { procs = s.procs; hand = s.hand; box = s.box; count = s.count; births = s.births; settings = allotted m c d s.settings }

-- "a capacity outside 1 to 32 or a mode other than 0 and 1"
unfoldable pub no_size : ℕ → ℕ → Bool
no_size c d = (eqb c 0 || ltb most_queued c) || ltb 1 d

-- "a mailbox with messages or waiters"
unfoldable pub busy : ℕ → State → Bool
busy m s = someone (s.box m) || someone (s.procs.queue (at_mailbox m))

-- m holds as many messages as it takes; "0 refuse when full, 1 drop the oldest"
abbrev pub is_full : ℕ → State → Bool
is_full m s = leb (s.settings.capacity m) (length (s.box m))

abbrev pub drops : ℕ → State → Bool
drops m s = eqb (s.settings.mode m) 1

-- "11: mailbox holds 8 (send only)": as many as it takes
unfoldable pub refuses : ℕ → State → Bool
refuses m s = is_full m s && not (drops m s)

unfoldable pub overflows : ℕ → State → Bool
overflows m s = is_full m s && drops m s

-- what a send to m finds: "A send to a full mailbox that drops loses its oldest message"
unfoldable pub relieved : ℕ → State → State
relieved m s = if overflows m s then fill m (drop 1 (s.box m)) s else s

-- ".. and then the lowest free buffer, that one included, is taken": by request 6 as many as bytes b need
abbrev pub buffers_for : ℕ → List ℕ → State → List ℕ
buffers_for m b s = lowest_free (needed (length b)) (relieved m s)

-- "12: no free buffer (send only)": by request 6 "fewer buffers are free than the message needs, after any drop"
abbrev pub no_buffers : ℕ → List ℕ → State → Bool
no_buffers m b s = too_few (needed (length b)) (relieved m s)

-- What is sound of capacities and modes; numbers from 16 on are nobody's, and stay as they start.
pub record Habits (capacity mode : ℕ → ℕ) : Type 0 where
  pub some : (m : ℕ) → 1 ≤ capacity m
  pub most : (m : ℕ) → capacity m ≤ most_queued
  pub modes : (m : ℕ) → mode m ≤ 1
  pub no_more : (m : ℕ) → mailboxes ≤ m → (capacity m ≡ usual.capacity m) × (mode m ≡ usual.mode m)
