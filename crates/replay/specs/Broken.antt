-- What is left where a read or a write fails, which alone ends the program with an error: what was taken until then is answered as promised, and it may be less than what was read.
-- Assumes nothing.
use Rattle.std.specs.Prelude.{ℕ, ◌≤◌, List, length, take}
use Rattle.desk.specs.declared.Turn.{Turn}
use Rattle.feed.specs.declared.Ongoing.{Ongoing}
use Rattle.replay.specs.declared.Session.{Session}
use Rattle.replay.specs.Replays.{Handed, Replays, WholeReplay}

-- so many of these bytes have been taken, from the front
pub record Broken (o : Ongoing) (store line bytes store' line' : List ℕ) : Type 0 where
  pub taken : ℕ
  pub within : taken ≤ length bytes
  pub next : Ongoing
  pub handed : Handed o store line (take taken bytes) next store' line'

-- from one fresh start on, every byte of every read, but that of the last one some may be left
pub record BrokenReplay (store line store' line' : List ℕ) : Type 0 where
  pub next : Ongoing
  pub replayed : Replays store line next store' line'

-- it failed before the end of the input, or the last write did, behind the whole input
pub data BrokenInput (store line store' line' : List ℕ) : Type 0 where
  before_the_end : BrokenReplay store line store' line' → BrokenInput store line store' line'
  at_the_end : {r : Turn} → WholeReplay store' r → BrokenInput store line store' line'

-- the same of a session, before and after
abbrev pub Breaks : Session → List ℕ → Session → Type 0
Breaks a bytes b = Broken a.ongoing a.store a.line bytes b.store b.line

abbrev pub BreaksReplay : Session → Session → Type 0
BreaksReplay a b = BrokenReplay a.store a.line b.store b.line

abbrev pub BreaksInput : Session → Session → Type 0
BreaksInput a b = BrokenInput a.store a.line b.store b.line
