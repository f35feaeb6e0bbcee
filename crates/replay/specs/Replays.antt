-- The words in which the program's functions promise that they lose nothing of the bytes that were read and nothing of the desk. What is read and what is written no contract can say.
-- Assumes nothing.
use Rattle.std.specs.Prelude.{ℕ, List, [], ◌∷◌, ◌++◌}
use Rattle.desk.specs.declared.Turn.{Turn}
use Rattle.feed.specs.Takes.{FromFresh}
use Rattle.feed.specs.Theorems.{Chunks, Whole}
use Rattle.feed.specs.declared.Ongoing.{Ongoing}
use Rattle.replay.specs.declared.Session.{Session}

-- every byte of these has been taken, in one chunk or several; `written` is what stood at the start of the area after each, in order
pub record Handed (o : Ongoing) (store line bytes : List ℕ) (o' : Ongoing) (store' line' : List ℕ) : Type 0 where
  pub written : List ℕ
  pub chunks : Chunks o store line bytes written o' store' line'

-- the bytes of reads, in order
abbrev pub all_of : List (List ℕ) → List ℕ
all_of [] = []
all_of (r ∷ rs) = r ++ all_of rs

-- the same of a session, before and after
abbrev pub Hands : Session → List ℕ → Session → Type 0
Hands a bytes b = Handed a.ongoing a.store a.line bytes b.ongoing b.store b.line

-- from one fresh start on, every byte of every read
pub record Replays (store line : List ℕ) (o' : Ongoing) (store' line' : List ℕ) : Type 0 where
  pub first : Ongoing
  pub fresh : FromFresh first
  pub reads : List (List ℕ)
  pub handed : Handed first store line (all_of reads) o' store' line'

abbrev pub Runs : Session → Session → Type 0
Runs a b = Replays a.store a.line b.ongoing b.store b.line

-- what was put into the area to be written is what the plain kernel's desk writes for the lines of all the reads, and the desk and the store are where it stands then
pub record WholeReplay (store' : List ℕ) (r : Turn) : Type 0 where
  pub reads : List (List ℕ)
  pub written : List ℕ
  pub whole : Whole (all_of reads) written r.desk store'
