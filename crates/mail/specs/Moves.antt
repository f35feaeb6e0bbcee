-- What the struct becomes as messages are delivered, dropped, fetched and let go, and what is read off it, in its numbers.
-- Total: a mailbox, process or buffer number past the last leaves what it would change as it is. Assumes nothing.
use Rattle.std.specs.Prelude.{ℕ, Bool, true, false, List, length, get_or, set, replicate, ltb, if◌then◌else◌, Option, Some, None}
use Rattle.sizes.specs.declared.Bid.{Bid}
use Rattle.boxes.specs.Box.{num}
use Rattle.lists.specs.Lists.{put, lowest, those}
use Rattle.bits.specs.Word.{width, word, bits}
use Rattle.rings.specs.Ring.{Tables}
use Rattle.rings.specs.Moves.{fresh, join_rear, leave, first, is_empty, holds_at_least}
use Rattle.chains.specs.Links.{own, run, lows, link_up, alone, puts}
use Rattle.plain.specs.Pages.{needed}
use Rattle.plain.specs.Sizes.{processes, mailboxes, buffers}
use Rattle.mail.specs.Carries.{Numbers}

-- ---- what is read

-- 32 where no buffer is free
unfoldable pub lowest_free : Numbers → ℕ
lowest_free k = lowest 0 width (bits k.free)

-- fewer buffers are free than n bytes need
unfoldable pub lacks : Numbers → ℕ → Bool
lacks k n = ltb (length (those 0 width (bits k.free))) (needed n)

-- mailbox m, which takes n messages, is full
unfoldable pub is_full_box : Numbers → ℕ → ℕ → Bool
is_full_box k m n = holds_at_least buffers mailboxes k.tables m n

unfoldable pub is_empty_box : Numbers → ℕ → Bool
is_empty_box k m = is_empty buffers mailboxes k.tables m

unfoldable pub has_message : Numbers → ℕ → Bool
has_message k p = bits k.full p

-- the first buffer of what is in a hand
unfoldable pub hand_at : Numbers → ℕ → ℕ
hand_at k p = get_or k.hand p 0

-- the length of the message that begins in buffer b
abbrev pub length_at : Numbers → ℕ → ℕ
length_at k b = get_or k.length b 0

-- 0 where the hand is empty
unfoldable pub length_in_hand : Numbers → ℕ → ℕ
length_in_hand k p = if has_message k p then length_at k (hand_at k p) else 0

-- 0 where the mailbox is empty
unfoldable pub first_length : Numbers → ℕ → ℕ
first_length k m = length_at k (first buffers mailboxes k.tables m)

-- ---- what is changed

-- nothing is queued, nothing is in a hand, every buffer is free
unfoldable pub fresh_mail : Numbers
fresh_mail = record {
  tables = fresh buffers mailboxes;
  hand = replicate processes 0;
  full = word width (λ p. false);
  length = replicate buffers 0;
  free = word width (λ b. true);
  chain = own;
}

-- message buffers l, the first of which is b, have n as their length, are linked so, and are free or not
abbrev stocked : Numbers → ℕ → ℕ → List ℕ → List ℕ → Bool → Numbers
stocked k b n chain l free = record {
  tables = k.tables;
  hand = k.hand;
  full = k.full;
  length = set k.length b n;
  free = word width (puts (bits k.free) l free);
  chain = chain;
}

-- as many of the lowest free buffers as n bytes need take a message of n bytes
unfoldable pub filled : Numbers → ℕ → Numbers
filled k n = let l : List ℕ = lows (needed n) (bits k.free) in stocked k (lowest_free k) n (link_up k.chain l) l false

-- the buffers of the message that begins in buffer b become free
unfoldable pub freed : Numbers → ℕ → Numbers
freed k b = let l : List ℕ = run k.chain (needed (length_at k b)) b in stocked k b 0 (alone k.chain l) l true

-- process p has buffer b in hand, or has an empty hand
abbrev pub holding : Numbers → ℕ → ℕ → Bool → Numbers
holding k p b full = record {
  tables = k.tables;
  hand = set k.hand p b;
  full = word width (put (bits k.full) p full);
  length = k.length;
  free = k.free;
  chain = k.chain;
}

unfoldable pub given : Numbers → ℕ → ℕ → Numbers
given k p b = holding k p b true

unfoldable pub emptied : Numbers → ℕ → Numbers
emptied k p = holding k p 0 false

-- process p has the message that begins in a buffer in hand, or an empty hand
unfoldable pub set_in_hand : Numbers → ℕ → Option Bid → Numbers
set_in_hand k p None = emptied k p
set_in_hand k p (Some b) = given k p (num b)

-- the mailboxes' links are t
abbrev pub relinked : Numbers → Tables → Numbers
relinked k t = record { tables = t; hand = k.hand; full = k.full; length = k.length; free = k.free; chain = k.chain }

-- a message of n bytes takes its buffers and is queued last in mailbox m
unfoldable pub queued_last : Numbers → ℕ → ℕ → Numbers
queued_last k m n = relinked (filled k n) (join_rear buffers mailboxes k.tables m (lowest_free k))

-- a message of n bytes takes its buffers and goes into the hand of process p
unfoldable pub handed_over : Numbers → ℕ → ℕ → Numbers
handed_over k p n = given (filled k n) p (lowest_free k)

-- a message of n bytes takes its buffers for mailbox m: w, the first who waits there, gets it in hand; where w is no process, it is queued last
unfoldable pub delivered : Numbers → ℕ → ℕ → ℕ → Numbers
delivered k m w n = if ltb w processes then handed_over k w n else queued_last k m n

-- the first message of mailbox m leaves it, and its buffers become free
unfoldable pub oldest_dropped : Numbers → ℕ → Numbers
oldest_dropped k m =
    let b : ℕ = first buffers mailboxes k.tables m in
    relinked (freed k b) (leave buffers mailboxes k.tables b)

-- mailbox m drops its oldest message, or nothing changes
unfoldable pub relieved : Numbers → ℕ → Bool → Numbers
relieved k m drops = if drops then oldest_dropped k m else k

-- the first message of mailbox m goes into the hand of process p
unfoldable pub fetched : Numbers → ℕ → ℕ → Numbers
fetched k m p =
    let b : ℕ = first buffers mailboxes k.tables m in
    relinked (given k p b) (leave buffers mailboxes k.tables b)

-- the buffers of the message in the hand of process p become free; nothing changes where the hand is empty
unfoldable pub let_go : Numbers → ℕ → Numbers
let_go k p = if has_message k p then emptied (freed k (hand_at k p)) p else k
