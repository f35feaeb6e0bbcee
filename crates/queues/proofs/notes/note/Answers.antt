-- `queues::notes::note` meets its contract. The invariant: what is noted on the rest of the way makes the notes of the whole way. Assumes nothing.
use Rattle.std.proofs.Common.{◌≡◌, ◌+◌, ◌-◌, sym, ap, ◌∙◌, arith}
use Rattle.queues.proofs.Lines.{onward-on, onward-done, onward-ends, line_within, line_beyond}
use Rattle.queues.proofs.Noted.{noted_none, noted_one}
use Rattle.queues.proofs.notes.note.Goals as goal
use Rattle.queues.specs.Noted.{noted}
use Rattle.queues.specs.Queue.{processes}

pub returns-then-q-ge-QUEUES : goal.returns-then-q-ge-QUEUES
returns-then-q-ge-QUEUES c =
    let a = c.args in
    sym (ap (noted a.at.now a.mark) (line_beyond a.next.now a.q c.if-q-ge-QUEUES.true) ∙ noted_none _ _)

pub loop-init : goal.loop-init
loop-init c =
    let a = c.args in
    (omega arith, ap (noted a.at.now a.mark) (sym (line_within a.next.now a.q c.if-q-ge-QUEUES.false)))

pub returns-then-node-ge-PROCESSES : goal.returns-then-node-ge-PROCESSES
returns-then-node-ge-PROCESSES c =
    let l = c.loop in
    let a = c.args in
    sym (noted_none l.at l.word) ∙ ap (noted l.at l.word) (sym (onward-ends a.next.now (processes - l.counter) l.node c.if-node-ge-PROCESSES.true)) ∙ l.invariant.1

pub loop-preserved : goal.loop-preserved
loop-preserved c =
    let l = c.loop in
    let a = c.args in
    let e : processes - l.counter - 1 ≡ processes - (l.counter + 1) = omega arith in
    (omega arith, rw (← e) (sym (noted_one l.at l.word l.node _) ∙ ap (noted l.at l.word) (sym (onward-on a.next.now (processes - l.counter) l.node (omega arith) c.if-node-ge-PROCESSES.false))) ∙ l.invariant.1)

pub returns : goal.returns
returns c =
    let l = c.loop in
    let a = c.args in
    sym (noted_none l.at l.word) ∙ ap (noted l.at l.word) (sym (onward-done a.next.now (processes - l.counter) l.node (omega arith))) ∙ l.invariant.1
