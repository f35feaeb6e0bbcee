-- What a `Word` means in its line, and what the reading of a line promises of it.
-- Assumes nothing.
use Rattle.std.specs.Prelude as Code
use Rattle.std.specs.Prelude.{ℕ, ◌+◌, ◌≤◌, ◌≡◌, List, length, Some, None}
use Rattle.std.proofs.Math.Option.{Option, none, some}
use Rattle.plain.specs.Calls as Plain
use Rattle.plain.specs.Calls.{create, stop, end, yield, class, tick, mailbox, send, receive, read, release, signal, wait}
use Rattle.script.specs.Grammar.{Order, does, why, slice, order, most_bytes, largest_room}
use Rattle.script.specs.Spelled.{spelled, lastly}
use Rattle.script.specs.declared.calls.Quiet.{Quiet}
use Rattle.script.specs.declared.calls.Quiet.TheVariants.{Create, Stop, End, Yield, Class, Tick, Mailbox, Receive, Release, Signal, Wait}
use Rattle.script.specs.declared.calls.Word.{Word}
use Rattle.script.specs.declared.calls.Word.TheVariants.{Call, Send, Read, Why, Slice}

-- which call it is
abbrev pub called : Quiet → Plain.Call
called (Create n) = create n
called (Stop n) = stop n
called End = end
called Yield = yield
called (Class n) = class n
called Tick = tick
called (Mailbox m c d) = mailbox m c d
called (Receive n) = receive n
called Release = release
called (Signal n) = signal n
called (Wait n) = wait n

-- what a word means in its line
abbrev pub meaning : Code.Option Word → List ℕ → Option Order
meaning None line = none
meaning (Some (Call q)) line = some (does (called q))
meaning (Some (Send m n)) line = some (does (send m (spelled (lastly (n + n) line))))
meaning (Some (Read n)) line = some (does (read n))
meaning (Some (Why n)) line = some (why n)
meaning (Some (Slice n)) line = some (slice n)

-- the word of an order
abbrev pub word_of : Option Order → Code.Option Word
word_of none = None
word_of (some (does (create n))) = Some (Call (Create n))
word_of (some (does (stop n))) = Some (Call (Stop n))
word_of (some (does end)) = Some (Call End)
word_of (some (does yield)) = Some (Call Yield)
word_of (some (does (class n))) = Some (Call (Class n))
word_of (some (does tick)) = Some (Call Tick)
word_of (some (does (mailbox m c d))) = Some (Call (Mailbox m c d))
word_of (some (does (send m b))) = Some (Send m (length b))
word_of (some (does (receive n))) = Some (Call (Receive n))
word_of (some (does (read n))) = Some (Read n)
word_of (some (does release)) = Some (Call Release)
word_of (some (does (signal n))) = Some (Call (Signal n))
word_of (some (does (wait n))) = Some (Call (Wait n))
word_of (some (why n)) = Some (Why n)
word_of (some (slice n)) = Some (Slice n)

-- What `request` promises of w for a line. The last two follow from the first two: they are what a caller needs to lend the message and the room.
pub record Tells (line : List ℕ) (w : Code.Option Word) : Type 0 where
  pub meaning : meaning w line ≡ order line
  pub only : w ≡ word_of (order line)
  pub short : (m n : ℕ) → w ≡ Some (Send m n) → (n ≤ most_bytes) × (n + n ≤ length line)
  pub room : (n : ℕ) → w ≡ Some (Read n) → n ≤ largest_room
