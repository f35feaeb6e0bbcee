-- What `feed` and `finish` promise: how much of a chunk is taken, what is written for it, and what is pending then.
-- Assumes nothing.
use Rattle.std.specs.Prelude.{ℕ, ◌+◌, ◌-◌, ◌≤◌, ◌<◌, List, [], ◌∷◌, ◌++◌, ◌≡◌, length, Some}
use Rattle.script.specs.Grammar.{order}
use Rattle.answers.specs.Written.{Written}
use Rattle.desk.specs.Line.{HoldsDesk, Answered}
use Rattle.desk.specs.Reply.{at_first}
use Rattle.desk.specs.Theorems.{longest_text}
use Rattle.desk.specs.declared.Desk.{Desk}
use Rattle.desk.specs.declared.Turn.{Turn}
use Rattle.feed.specs.Cut.{newline, ending, NoNewline}
use Rattle.feed.specs.Buffer.{Told, HoldsLine}
use Rattle.feed.specs.declared.Ongoing.{Ongoing}
use Rattle.feed.specs.declared.Fed.{Fed}

-- The promise of `Ongoing::fresh`: nothing has been read.
pub record FromFresh (o : Ongoing) : Type 0 where
  pub desk : HoldsDesk o.desk at_first
  pub held : o.held ≡ Some 0

-- `Takes d store p chunk room d' store' p' used w`: from d and the store, with p pending and room for so many bytes of answers, the chunk leads to d', store' and p' pending; so many bytes of it are used, and w is written.
-- `no_room`: without room for the longest text and its newline, nothing is taken.
-- `part`: else, where no line ends in the chunk, all of it is taken and pending.
-- `ends`: else the line that ends first is answered, and it goes on behind its newline with the room that is left.
pub data Takes : Desk → List ℕ → List ℕ → List ℕ → ℕ → Desk → List ℕ → List ℕ → ℕ → List ℕ → Type 0 where
  no_room : {d : Desk} {store p chunk : List ℕ} {room : ℕ} → room ≤ longest_text → Takes d store p chunk room d store p 0 []
  part : {d : Desk} {store p chunk : List ℕ} {room : ℕ} → longest_text < room → NoNewline chunk → Takes d store p chunk room d store (p ++ chunk) (length chunk) []
  ends : {d d' d'' : Desk} {store store' store'' p p'' chunk w : List ℕ} {room used : ℕ} (a c text : List ℕ) → longest_text < room → NoNewline a → chunk ≡ a ++ (newline ∷ c)
      → Answered store d (order (p ++ a)) d' store' text → Takes d' store' [] c (room - (length text + 1)) d'' store'' p'' used w
      → Takes d store p chunk room d'' store'' p'' (length a + 1 + used) (text ++ (newline ∷ w))

-- The promise of `feed`, where p is pending. What is written stands at the start of the area, whose rest is as it was. Of a line that is too long no number is told.
pub record Feeding (p store chunk out : List ℕ) (d : Desk) (store' line' out' : List ℕ) (r : Fed) : Type 0 where
  pub pending : List ℕ
  pub answers : List ℕ
  pub takes : Takes d store p chunk (length out) r.next.desk store' pending r.used answers
  pub held : HoldsLine pending line' r.next.held
  pub small : Told r.next.held
  pub written : Written answers out out' r.wrote

abbrev pub Feeds : List ℕ → List ℕ → List ℕ → List ℕ → Ongoing → List ℕ → List ℕ → List ℕ → Fed → Type 0
Feeds store line chunk out o store' line' out' r = (p : List ℕ) → HoldsLine p line o.held → Feeding p store chunk out o.desk store' line' out' r

-- It follows that never more is used or written than was lent. With room for the longest text and its newline some byte is used of a chunk that has any, so that giving the rest again comes to its end.
pub record GoesOn (chunk out : List ℕ) (r : Fed) : Type 0 where
  pub used : r.used ≤ length chunk
  pub wrote : r.wrote ≤ length out
  pub some : longest_text < length out → 0 < length chunk → 0 < r.used

-- The promise of `finish`, where p is pending: as if a newline ended it.
pub record Finishing (p store out : List ℕ) (d : Desk) (store' out' : List ℕ) (r : Turn) : Type 0 where
  pub pending : List ℕ
  pub used : ℕ
  pub answers : List ℕ
  pub takes : Takes d store p (ending p) (length out) r.desk store' pending used answers
  pub written : Written answers out out' r.length

abbrev pub Finishes : List ℕ → List ℕ → List ℕ → Ongoing → List ℕ → List ℕ → Turn → Type 0
Finishes store line out o store' out' r = (p : List ℕ) → HoldsLine p line o.held → Finishing p store out o.desk store' out' r
