-- What a call is lent beside the state.
-- Assumes nothing.
use Rattle.std.specs.Prelude.{ℕ, List}
use Rattle.plain.specs.Calls as Plain
use Rattle.plain.specs.Mailboxes.{buffers_for}
use Rattle.plain.specs.State.{State}

-- nothing; or a store, and the bytes of a message with the buffers that take them, or a room of so many bytes
pub data Lent : Type 0 where
  nothing : Lent
  bytes : List ℕ → (State → List ℕ) → Lent
  room : ℕ → Lent

abbrev pub lends : Plain.Call → Lent
lends (Plain.create c) = nothing
lends (Plain.stop p) = nothing
lends Plain.end = nothing
lends Plain.yield = nothing
lends (Plain.class c) = nothing
lends Plain.tick = nothing
lends (Plain.mailbox m c d) = nothing
lends (Plain.send m b) = bytes b (buffers_for m b)
lends (Plain.receive m) = nothing
lends (Plain.read n) = room n
lends Plain.release = nothing
lends (Plain.signal k) = nothing
lends (Plain.wait k) = nothing
