-- The theorems: no second answer; and however the input is cut into chunks, what is written is what the plain kernel's desk writes for its lines. Each is proved under its own name in proofs/Theorems.antt.
-- Assumes nothing.
use Rattle.std.specs.Prelude.{ℕ, ◌<◌, List, [], ◌∷◌, ◌++◌, ◌≡◌, length, take, Option, Some}
use Rattle.plain.specs.Sizes.{store_size}
use Rattle.promise.specs.Promise.{Stored}
use Rattle.script.specs.Grammar.{longest_line}
use Rattle.answers.specs.Answer.{bad}
use Rattle.desk.specs.Line.{HoldsDesk}
use Rattle.desk.specs.Reply.{Stand, at_first, later, replies, standing}
use Rattle.desk.specs.Theorems.{longest_text, Same}
use Rattle.desk.specs.declared.Desk.{Desk}
use Rattle.desk.specs.declared.Turn.{Turn}
use Rattle.feed.specs.Cut.{newline, lines_of, with_newlines, NoNewline}
use Rattle.feed.specs.Buffer.{HoldsLine}
use Rattle.feed.specs.Takes.{FromFresh, Feeds, Finishes}
use Rattle.feed.specs.declared.Ongoing.{Ongoing}
use Rattle.feed.specs.declared.Fed.{Fed}

-- 1. Every line buffer holds some line, whatever number is told of it: the promises say something of every input.
pub record SomeLine (line : List ℕ) (n : Option ℕ) : Type 0 where
  pub bytes : List ℕ
  pub holds : HoldsLine bytes line n

abbrev pub EveryBuffer : Type 0
EveryBuffer = (line : List ℕ) (n : Option ℕ) → length line ≡ longest_line → SomeLine line n

-- 2. No second answer: for the same desk, areas and chunk, what meets a promise is equal, but for the bytes of the line buffer behind those that it holds.
abbrev pub OneFresh : Type 0
OneFresh = (o₁ o₂ : Ongoing) → FromFresh o₁ → FromFresh o₂ → o₁ ≡ o₂

pub record SameFed (r₁ r₂ : Fed) (store₁ store₂ line₁ line₂ out₁ out₂ : List ℕ) : Type 0 where
  pub fed : r₁ ≡ r₂
  pub store : store₁ ≡ store₂
  pub area : out₁ ≡ out₂
  pub line : (n : ℕ) → r₁.next.held ≡ Some n → take n line₁ ≡ take n line₂

abbrev pub OneFeed : Type 0
OneFeed = (store line chunk out store₁ store₂ line₁ line₂ out₁ out₂ : List ℕ) (o : Ongoing) (r₁ r₂ : Fed) → length line ≡ longest_line
    → Feeds store line chunk out o store₁ line₁ out₁ r₁ → Feeds store line chunk out o store₂ line₂ out₂ r₂ → SameFed r₁ r₂ store₁ store₂ line₁ line₂ out₁ out₂

abbrev pub OneFinish : Type 0
OneFinish = (store line out store₁ store₂ out₁ out₂ : List ℕ) (o : Ongoing) (r₁ r₂ : Turn) → length line ≡ longest_line
    → Finishes store line out o store₁ out₁ r₁ → Finishes store line out o store₂ out₂ r₂ → Same r₁ r₂ store₁ store₂ out₁ out₂

-- 3. Demand 2 (docs/KERNEL.md) of bytes: any chunks, then the end.

-- Chunks one after another, over one store and one line buffer: `bytes` are those that were used of them, `written` is all that was written.
pub data Chunks : Ongoing → List ℕ → List ℕ → List ℕ → List ℕ → Ongoing → List ℕ → List ℕ → Type 0 where
  none : {o : Ongoing} {store line : List ℕ} → Chunks o store line [] [] o store line
  more : {o o'' : Ongoing} {store line store' line' store'' line'' bytes written : List ℕ} (chunk out out' : List ℕ) (r : Fed) → Feeds store line chunk out o store' line' out' r
      → Chunks r.next store' line' bytes written o'' store'' line'' → Chunks o store line (take r.used chunk ++ bytes) (take r.wrote out' ++ written) o'' store'' line''

-- the same and then the end of the input, in an area with room for the longest text
pub data Input : Ongoing → List ℕ → List ℕ → List ℕ → List ℕ → Desk → List ℕ → Type 0 where
  at_end : {o o' : Ongoing} {store line store' line' store'' bytes written : List ℕ} (out out' : List ℕ) (r : Turn) → Chunks o store line bytes written o' store' line' → longest_text < length out
      → Finishes store' line' out o' store'' out' r → Input o store line bytes (written ++ take r.length out') r.desk store''

-- From a fresh start, all that is written is what the plain kernel's desk writes for the lines of all the bytes, and the desk and the store are where it stands then.
pub record Whole (bytes written : List ℕ) (d : Desk) (store : List ℕ) : Type 0 where
  pub answers : written ≡ with_newlines (replies at_first (lines_of bytes))
  pub desk : HoldsDesk d (standing at_first (lines_of bytes))
  pub messages : Stored store (standing at_first (lines_of bytes)).state

abbrev pub WholeInput : Type 0
WholeInput = (o : Ongoing) (store line bytes written store' : List ℕ) (d' : Desk) → FromFresh o → length store ≡ store_size → Input o store line bytes written d' store' → Whole bytes written d' store'

-- From any start, the same bytes in other chunks, with other areas and other scratch in the line buffer, lead to the same.
pub record SameEnd (written₁ written₂ : List ℕ) (d₁ d₂ : Desk) (store₁ store₂ : List ℕ) : Type 0 where
  pub written : written₁ ≡ written₂
  pub desk : d₁ ≡ d₂
  pub store : store₁ ≡ store₂

abbrev pub AnyChunks : Type 0
AnyChunks = (o : Ongoing) (p store line₁ line₂ bytes written₁ written₂ store₁ store₂ : List ℕ) (d₁ d₂ : Desk) → HoldsLine p line₁ o.held → HoldsLine p line₂ o.held
    → Input o store line₁ bytes written₁ d₁ store₁ → Input o store line₂ bytes written₂ d₂ store₂ → SameEnd written₁ written₂ d₁ d₂ store₁ store₂

-- 4. "one over 1,300 bytes gives `bad` and changes nothing", by request 6 one over 8,600: it is one line, and what follows it is read as if it were not there, but that no later line is the first.
abbrev pub OneBad : Type 0
OneBad = (t : Stand) (l c : List ℕ) → NoNewline l → longest_line < length l → replies t (lines_of (l ++ (newline ∷ c))) ≡ bad ∷ replies (later t.state) (lines_of c)
