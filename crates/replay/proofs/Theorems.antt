-- The program's theorem, from feed's.
-- Assumes nothing.
use Prim.Native.Nat.{ℕ, ◌<◌}
use mathlib.Core.List.{List, ◌++◌}
use mathlib.Core.Path.{◌≡◌}
use lib.ListN.{length, take}
use Rattle.plain.specs.Sizes.{store_size}
use Rattle.desk.specs.Theorems.{longest_text}
use Rattle.desk.specs.declared.Turn.{Turn}
use Rattle.feed.specs.Takes.{Finishes}
use Rattle.feed.specs.Theorems.{at_end}
use Rattle.feed.specs.declared.Ongoing.{Ongoing}
use Rattle.feed.proofs.Theorems.{whole_input}
use Rattle.replay.specs.Replays.{all_of, Replays, WholeReplay}
use Rattle.replay.specs.Theorems.{WholeProgram}

pub whole_program : WholeProgram
whole_program store line store' line' out store'' out' o r size a room finish =
    whole_input a.first store line (all_of a.reads) _ store'' r.desk a.fresh size (at_end out out' r a.handed.chunks room finish)

pub whole_replay : {store line store' line' out store'' out' : List ℕ} {o : Ongoing} {r : Turn} → length store ≡ store_size → Replays store line o store' line' → longest_text < length out → Finishes store' line' out o store'' out' r → WholeReplay store'' r
whole_replay {store} {line} {store'} {line'} {out} {store''} {out'} {o} {r} size a room finish =
    record { reads = a.reads; written = a.handed.written ++ take r.length out'; whole = whole_program store line store' line' out store'' out' o r size a room finish }
