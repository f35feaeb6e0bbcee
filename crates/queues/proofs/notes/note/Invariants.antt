-- `queues::notes::note` meets its contract. The invariant: what is noted on the rest of the way makes the notes of the whole way. Assumes nothing.
use Rattle.std.proofs.Common.{◌≡◌, ◌+◌, ◌-◌, ◌*◌}
use Rattle.queues.proofs.notes.note.Given as goal
use Rattle.queues.specs.Lines.{onward, line}
use Rattle.queues.specs.Noted.{one_ahead, noted}
use Rattle.queues.specs.Queue.{processes}

abbrev pub invariant-loop : goal.invariant-loop
invariant-loop l =
    (l.word ≡ l.mark + one_ahead * l.counter) × (noted l.at l.word (onward l.next (processes - l.counter) l.node) ≡ noted l.initial.at l.mark (line l.next l.q))
