-- `kernel::Kernel::receive` meets its contract. Assumes nothing.
use Prim.Native.Nat.{◌%◌, ◌<◌}
use Rattle.kernel.proofs.Changes.{moved_holds, mailed_holds, gone_kept, fetched_carried}
use Rattle.kernel.proofs.Judging.{refused_plainly, accepted_plainly, gives, runner_is}
use Rattle.kernel.proofs.Kernel.receive.Goals as goal
use Rattle.kernel.proofs.Reading.{empty_hand_is}
use Rattle.kernel.proofs.Verdicts.{judged_receive}
use Rattle.kernel.specs.Judged.{answered}
use Rattle.lists.proofs.Laws.{nobody, first_of}
use Rattle.mail.proofs.Looks.{empty_box, first-length}
use Rattle.mail.specs.Moves.{has_message}
use Rattle.plain.specs.Calls as Plain
use Rattle.plain.specs.Sizes.{mailboxes, at_mailbox}
use borrow.Author.Tests.{leb-false, eqb-false, not-true, not-false}
use lib.ListN.{length}
use mathlib.Core.List.{[]}
use mathlib.Core.Path.{◌≡◌, sym, ap, ◌∙◌}
use native.Mathlib.Omega.{arith}

pub returns-in-Err : goal.returns-in-Err
returns-in-Err c = refused_plainly (Plain.receive _) c.in-Err.r (judged_receive c.facts-f.ensures c.args.m (c.has_message.ensures ∙ ap (has_message _) c.facts-f.ensures.runner) c.in-Err.ensures) c.refuse.ensures

pub returns-then-is_empty_box : goal.returns-then-is_empty_box
unfolding Plain.perform Plain.refusals
returns-then-is_empty_box c = accepted_plainly (Plain.receive _) c.in_default.field-0 (judged_receive c.facts-f.ensures c.args.m (c.has_message.ensures ∙ ap (has_message _) c.facts-f.ensures.runner) c.in_default.ensures) (λ s H S x.
    let a = c.args in
    let low : a.m < mailboxes = leb-false _ _ x.1.0 in
    let e : a.m % 16 ≡ a.m = omega (arith, low) in
    let none : s.box a.m ≡ [] = nobody _ (not-true _ (sym (empty_box H.mail a.m) ∙ (sym c.is_empty_box.ensures ∙ c.if-is_empty_box.true))) in
    rw none (gives 32 0 [] _ c.answer.ensures (rw c.with_procs.ensures
    (moved_holds H (rw (c.go_to.ensures, c.waiters_at_mailbox.ensures, e, c.facts-f.ensures.slice) (gone_kept H S (at_mailbox a.m) (eqb-false _ _ x.0) (omega arith) (omega (arith, low))))))))

pub returns : goal.returns
unfolding Plain.perform Plain.refusals
returns c = accepted_plainly (Plain.receive _) c.in_default.field-0 (judged_receive c.facts-f.ensures c.args.m (c.has_message.ensures ∙ ap (has_message _) c.facts-f.ensures.runner) c.in_default.ensures) (λ s H S x.
    let a = c.args in
    let f = first_of (s.box a.m) (not-false _ (sym (empty_box H.mail a.m) ∙ (sym c.is_empty_box.ensures ∙ c.if-is_empty_box.false))) in
    rw f.2 (gives 0 (length f.0.bytes) [] _ (c.answer-2.ensures ∙ ap (answered _ 0) (c.first_length-n.ensures ∙ first-length H.mail a.m f.0 f.1 f.2))
    (rw c.with_mail.ensures (mailed_holds H (rw (c.fetch.ensures, c.facts-f.ensures.runner, runner_is _ s H) (fetched_carried H S a.m f.0 f.1 (leb-false _ _ x.1.0) f.2 (empty_hand_is (Plain.hand s) x.1.1.0)))))))
