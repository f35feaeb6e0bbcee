-- `seats::ready_word` meets its contract. The loop's invariant: w has the bits of the classes below c.
-- Assumes nothing.
use Prim.Native.Nat.{◌+◌}
use Rattle.bits.specs.Word.{word}
use Rattle.plain.specs.Sizes.{processes}
use Rattle.queues.specs.Queue.{num}
use Rattle.seats.proofs.Classes.{ready_more}
use Rattle.seats.proofs.ready_word.Goals as goal
use lib.ListN.{get_or-map}
use mathlib.Core.List.{map}
use mathlib.Core.Path.{refl, ◌∙◌}

pub loop-c-init : goal.loop-c-init
unfolding word
loop-c-init c = refl

pub loop-c-preserved : goal.loop-c-preserved
loop-c-preserved c =
    let l = c.loop-c in
    let next = c.args.next in
    c.put_bit-w.ensures ∙ (rw (get_or-map num next (processes + l.c) (record { 0 = 0 })) at (ready_more (map num next) l.c l.w l.invariant))
