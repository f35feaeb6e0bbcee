-- "The replay desk": what the plain kernel's desk writes for the lines of a script, and where it then stands.
-- Assumes nothing.
use Rattle.std.specs.Prelude.{ℕ, Bool, true, false, ◌&&◌, List, [], ◌∷◌, eqb, if◌then◌else◌}
use Rattle.std.proofs.Math.Option.{Option, none, some}
use Rattle.plain.specs.Calls.{Call, Answer, Outcome, step}
use Rattle.plain.specs.Names.{bare}
use Rattle.plain.specs.Start.{fresh_start}
use Rattle.plain.specs.State.{State, fresh}
use Rattle.plain.specs.Why as Plain
use Rattle.answers.specs.Answer.{line, read_line, bad}
use Rattle.script.specs.Grammar.{Order, does, why, slice, order}
use Rattle.promise.specs.Lent.{Lent, nothing, bytes, room, lends}
use Rattle.wording.specs.Words.{reason_line}

-- Where the desk stands: whether the next line is the first, and the state of the kernel.
pub record Stand : Type 0 where
  pub first : Bool
  pub state : State

-- before the first line: "5 when none is named"
abbrev pub at_first : Stand
at_first = record { first = true; state = fresh }

-- after any line, whatever it was
abbrev pub later : State → Stand
later s = record { first = false; state = s }

-- whether a call takes a room
abbrev pub is_room : Lent → Bool
is_room nothing = false
is_room (bytes b at) = false
is_room (room n) = true

-- "code, number, running .. A successful read adds a space and the message in lowercase hex."
abbrev pub text_of : Call → Answer → List ℕ → List ℕ
text_of c a message = if is_room (lends c) && eqb a.code 0 then read_line a message else line a

-- request 1's `why`: a space and the reason behind the three numbers; of a refusal, the numbers alone
abbrev pub why_text : Answer → Plain.Reason → List ℕ
why_text a r = if eqb a.code 0 then reason_line a r else line a

-- the line that is written, and where the desk stands after it
pub record Reply : Type 0 where
  pub text : List ℕ
  pub next : Stand

-- "Any other line .. gives `bad` and changes nothing."
abbrev pub bad_reply : Stand → Reply
bad_reply t = record { text = bad; next = later t.state }

-- A question changes nothing either. Request 3: the slice is named "in replay by a first line `slice 3` (any number), answered as the fresh start; if refused, 5 holds". No other line can name it.
abbrev pub reply_to : Stand → Option Order → Reply
reply_to t none = bad_reply t
reply_to t (some (does c)) =
    let o : Outcome = step t.state c in
    record { text = text_of c o.answer o.message; next = later o.next }
reply_to t (some (why n)) = record { text = why_text (Plain.why t.state n).answer (Plain.reason t.state (bare n)); next = later t.state }
reply_to t (some (slice n)) =
    let o : Outcome = fresh_start n in
    if t.first then record { text = line o.answer; next = later o.next } else bad_reply t

abbrev pub reply : Stand → List ℕ → Reply
reply t line = reply_to t (order line)

-- "writes one line per line read"
abbrev pub replies : Stand → List (List ℕ) → List (List ℕ)
replies t [] = []
replies t (l ∷ ls) = (reply t l).text ∷ replies (reply t l).next ls

abbrev pub standing : Stand → List (List ℕ) → Stand
standing t [] = t
standing t (l ∷ ls) = standing (reply t l).next ls
