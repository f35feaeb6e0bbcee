-- The theorems of request 5, as a statement. It is proved under its own name in proofs/Theorems.antt.
-- Assumes nothing.
use Rattle.std.specs.Prelude.{ℕ, ◌+◌, ◌≤◌, ◌<◌, true, false, ◌≢◌, ◌⊎◌, ◌≡◌, length, drop}
use mathlib.Core.List.{List, [], ◌∷◌, ◌++◌, map, Memᴰ}
use Rattle.std.proofs.Math.Option.{some}
use Rattle.plain.specs.Sizes.{mailboxes, longest}
use Rattle.plain.specs.State.{Message, Settings, State, start, free_buffers}
use Rattle.plain.specs.Pages.{needed}
use Rattle.plain.specs.Mailboxes.{is_full, drops, overflows, buffers_for}
use Rattle.plain.specs.Calls.{Call, send, step}
use Rattle.plain.specs.Sound.{Sound}
use Rattle.plain_laws.specs.History.{kind, sets, is_done, dropped}

-- x is queued in mailbox m, or in somebody's hand
abbrev pub Remains : ℕ → Message → State → Type 0
Remains m x s = Memᴰ x (s.box m) ⊎ ((p : ℕ) × (s.hand p ≡ some x))

pub record Mailboxes : Type 0 where
  -- a mailbox that drops "never gives 11"
  pub never_11 : (s : State) (m : ℕ) (b : List ℕ) → drops m s ≡ true → (step s (send m b)).answer.code ≢ 11
  -- full, it takes every message that is not too long and needs no more buffers than are free with those of its oldest message, x: one of up to 512 bytes in any case
  pub taken : (s : State) (m : ℕ) (b : List ℕ) (x : Message) (l : List Message) → Sound s → overflows m s ≡ true → s.box m ≡ x ∷ l → m < mailboxes → length b ≤ longest
      → needed (length b) ≤ length (free_buffers s) + length x.lies → is_done (step s (send m b)) ≡ true
  -- and loses its oldest, one message: the others stay in their order, the new one is last
  pub oldest : (s : State) (m : ℕ) (b : List ℕ) → Sound s → overflows m s ≡ true → is_done (step s (send m b)) ≡ true
      → (step s (send m b)).next.box m ≡ drop 1 (s.box m) ++ (record { lies = buffers_for m b s; bytes = b } ∷ [])
  -- "A mailbox that is not full drops nothing", and "a mailbox that refuses never drops": whatever is called, what is queued there stays, or goes into a hand
  pub keeps : (s : State) (c : Call) (m : ℕ) (x : Message) → (is_full m s ≡ false) ⊎ (drops m s ≡ false) → Memᴰ x (s.box m) → Remains m x (step s c).next
  -- over any calls from fresh: where m starts refusing, and none of them sets it to drop
  pub none_dropped : (x : Settings) (m : ℕ) (cs : List Call) → x.mode m ≢ 1 → ((n : ℕ) → Memᴰ (sets m n 1) (map kind cs) → ⊥) → dropped m (start x) cs ≡ 0
