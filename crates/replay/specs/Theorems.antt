-- The program's theorem, demand 2 (docs/KERNEL.md) of what was read: where `every_turn` and then `finish` keep their promises, what was put into the area to be written is what the plain kernel's desk writes for the lines of all that was read. Proved under its own name in proofs/Theorems.antt.
-- Assumes nothing.
use Rattle.std.specs.Prelude.{ℕ, ◌<◌, List, ◌++◌, ◌≡◌, length, take}
use Rattle.plain.specs.Sizes.{store_size}
use Rattle.desk.specs.Theorems.{longest_text}
use Rattle.desk.specs.declared.Turn.{Turn}
use Rattle.feed.specs.Takes.{Finishes}
use Rattle.feed.specs.Theorems.{Whole}
use Rattle.feed.specs.declared.Ongoing.{Ongoing}
use Rattle.replay.specs.Replays.{all_of, Replays}

abbrev pub WholeProgram : Type 0
WholeProgram = (store line store' line' out store'' out' : List ℕ) (o : Ongoing) (r : Turn) → length store ≡ store_size → (a : Replays store line o store' line') → longest_text < length out → Finishes store' line' out o store'' out' r
    → Whole (all_of a.reads) (a.handed.written ++ take r.length out') r.desk store''
