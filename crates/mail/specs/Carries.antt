-- The struct as numbers, and when it holds the mailboxes and hands of a plain state. It knows the lengths of messages, not their bytes.
-- Assumes nothing.
use Rattle.std.specs.Prelude.{ℕ, ◌≤◌, ◌<◌, ◌≡◌, Bool, not, List, [], ◌∷◌, map, length, get_or, eqb}
use Rattle.std.proofs.Math.Option.{Option, none, some}
use Rattle.lists.specs.Lists.{occurs}
use Rattle.bits.specs.Word.{width, word}
use Rattle.rings.specs.Ring.{Tables, Rings}
use Rattle.boxes.specs.Box.{num, tables_of}
use Rattle.chains.specs.Led.{after, Led}
use Rattle.plain.specs.Sizes.{processes, mailboxes, buffers}
use Rattle.plain.specs.State.{Message, Each, InHand, held}
use Rattle.plain.specs.Pages.{needed}
use Rattle.plain.specs.Calls.{is_empty}
use Rattle.mail.specs.declared.Mail.{Mail}

pub record Numbers : Type 0 where
  pub tables : Tables
  pub hand : List ℕ
  pub full : ℕ
  pub length : List ℕ
  pub free : ℕ
  pub chain : List ℕ

unfoldable pub numbers : Mail → Numbers
numbers k = record { tables = tables_of k.boxes; hand = map num k.hand; full = k.full.0; length = k.length; free = k.free.0; chain = map num k.chain }

-- A message is queued, and held in a hand, by the first of its buffers.
abbrev pub first_of : Message → ℕ
first_of x = get_or x.lies 0 0

abbrev pub firsts : List Message → List ℕ
firsts l = map first_of l

abbrev pub first_in : Option Message → List ℕ
first_in none = []
first_in (some x) = first_of x ∷ []

-- 0 for an empty hand
abbrev pub buffer_in : Option Message → ℕ
buffer_in none = 0
buffer_in (some x) = first_of x

abbrev pub is_full : (ℕ → Option Message) → ℕ → Bool
is_full hand p = not (is_empty (hand p))

abbrev pub is_free : (ℕ → List Message) → (ℕ → Option Message) → ℕ → Bool
is_free box hand b = eqb (held box hand b) 0

-- the tables have message x: its length at its first buffer, and its buffers linked from there, as many as it needs
pub record Has (lengths chain : List ℕ) (x : Message) : Type 0 where
  pub long : get_or lengths (first_of x) 0 ≡ length x.bytes
  pub led : Led chain (first_of x) x.lies
  pub many : length x.lies ≡ needed (length x.bytes)

-- no message begins in buffer b
pub record NoneAt (box : ℕ → List Message) (hand : ℕ → Option Message) (b : ℕ) : Type 0 where
  pub queued : (m : ℕ) → occurs b (firsts (box m)) ≡ 0
  pub all_in_hands : (p : ℕ) → occurs b (first_in (hand p)) ≡ 0

-- k holds these mailboxes and hands: rings of first buffers, a bit for each full hand and each free buffer, zeros in empty hands and where no message begins, a free buffer linked to itself
pub record Carries (k : Numbers) (box : ℕ → List Message) (hand : ℕ → Option Message) : Type 0 where
  pub hands_long : length k.hand ≡ processes
  pub lengths_long : length k.length ≡ buffers
  pub chain_long : length k.chain ≡ buffers
  pub boxes : Rings buffers mailboxes k.tables (λ m. firsts (box m))
  pub hands : (p : ℕ) → get_or k.hand p 0 ≡ buffer_in (hand p)
  pub no_more_hands : (p : ℕ) → processes ≤ p → hand p ≡ none
  pub full : k.full ≡ word width (is_full hand)
  pub queued : (m : ℕ) → Each (Has k.length k.chain) (box m)
  pub all_in_hands : (p : ℕ) → InHand (Has k.length k.chain) (hand p)
  pub no_lengths : (b : ℕ) → NoneAt box hand b → get_or k.length b 0 ≡ 0
  pub alone : (b : ℕ) → b < buffers → held box hand b ≡ 0 → after k.chain b ≡ b
  pub free : k.free ≡ word width (is_free box hand)
