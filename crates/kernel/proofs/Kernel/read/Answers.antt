-- `kernel::Kernel::read` meets its contract. Assumes nothing.
use Rattle.kernel.proofs.Judging.{refused_lent, accepted_lent, gives}
use Rattle.kernel.proofs.Kernel.read.Goals as goal
use Rattle.kernel.proofs.Reading.{length-held, in_store_lem}
use Rattle.kernel.proofs.Verdicts.{judged_read}
use Rattle.kernel.specs.Judged.{answered}
use Rattle.mail.specs.Carries.{numbers}
use Rattle.mail.specs.Moves.{has_message, length_in_hand, hand_at}
use Rattle.plain.specs.Calls as Plain
use Rattle.plain.specs.Sizes.{store_size}
use Rattle.promise.specs.Promise.{room_after}
use borrow.Author.Tests.{eqb-true, ltb-false, not-false}
use lib.ListN.{length}
use mathlib.Core.Path.{refl, ap, ◌∙◌}

pub returns-in-Err : goal.returns-in-Err
returns-in-Err c = refused_lent (Plain.read (length c.args.room.now)) c.args.store.now c.args.room.now _ (λ o s. room_after c.args.store.now c.args.room.now o s) (λ o s e. rw e refl) c.in-Err.r (judged_read c.facts-f.ensures c.args.store.now (length c.args.room.now) refl (c.has_message-hand.ensures ∙ ap (has_message _) c.facts-f.ensures.runner) (c.length_in_hand-n.ensures ∙ ap (length_in_hand _) c.facts-f.ensures.runner) c.in-Err.ensures) c.refuse.ensures refl

pub returns : goal.returns
unfolding Plain.perform Plain.refusals numbers
returns c = let size = c.length_in_hand-n.ensures ∙ ap (length_in_hand _) c.facts-f.ensures.runner in
    accepted_lent (Plain.read (length c.args.room.now)) c.args.store.now c.args.room.now _ (λ o s. room_after c.args.store.now c.args.room.now o s) (λ o s e. rw e refl) c.in_default.field-0 (judged_read c.facts-f.ensures c.args.store.now (length c.args.room.now) refl (c.has_message-hand.ensures ∙ ap (has_message _) c.facts-f.ensures.runner) size c.in_default.ensures) (λ s H S p. (
      gives 0 (length (Plain.bytes_in (Plain.hand s))) (Plain.bytes_in (Plain.hand s)) _ (c.answer.ensures ∙ ap (answered _ 0) (size ∙ length-held H)) H,
      c.gather.ensures ∙ in_store_lem c.args.store.now c.args.room.now H S (eqb-true (length c.args.store.now) store_size (not-false _ p.0)) p.1.1.0 (ltb-false (length c.args.room.now) (length (Plain.bytes_in (Plain.hand s))) p.1.1.1.0) (c.in_hand-held.ensures ∙ ap (hand_at _) c.facts-f.ensures.runner) size,
    ))
