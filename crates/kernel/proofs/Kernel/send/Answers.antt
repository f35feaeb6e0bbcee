-- `kernel::Kernel::send` meets its contract. Assumes nothing.
use Prim.Native.Nat.{◌%◌}
use Rattle.kernel.proofs.Fullness.{sent_holds, sent_stored}
use Rattle.kernel.proofs.Judging.{refused_lent, accepted_lent, gives}
use Rattle.kernel.proofs.Kernel.send.Goals as goal
use Rattle.kernel.proofs.Reading.{longest_is}
use Rattle.kernel.proofs.Verdicts.{judged_send}
use Rattle.mail.specs.Carries.{Numbers, numbers}
use Rattle.mail.specs.Moves.{relieved}
use Rattle.plain.specs.Calls as Plain
use Rattle.plain.specs.Mailboxes.{buffers_for}
use Rattle.plain.specs.Sizes.{longest, mailboxes, store_size}
use Rattle.promise.specs.Promise.{store_after}
use borrow.Author.Tests.{leb-false, ltb-false, eqb-true, not-false}
use lib.ListN.{length}
use Rattle.kernel.specs.Full.{refuses_at, overflows_at}
use Rattle.std.proofs.Common.{rules}
use mathlib.Core.List.{[]}
use mathlib.Core.Path.{◌≡◌, refl, ap, ◌∙◌}
use native.Mathlib.Omega.{arith}

pub returns-in-Err : goal.returns-in-Err
returns-in-Err c =
    let drops : c.eq.result ≡ overflows_at c.args.self c.args.m = search rules in
    let refuses : c.eq-refuses.result ≡ refuses_at c.args.self c.args.m = search rules in
    refused_lent (Plain.send c.args.m c.args.message.now) c.args.store.now c.args.store.now c.args.store.now (λ o s. store_after c.args.store.now o (buffers_for c.args.m c.args.message.now s) c.args.message.now) (λ o s e. rw e refl) c.in-Err.r (judged_send c.facts-f.ensures c.args.store.now c.args.message.now c.args.m c.relieve-next.result refl refl refuses (c.relieve-next.ensures ∙ ap (relieved (numbers c.args.self.mail) c.args.m) drops) c.lacks.ensures c.in-Err.ensures) c.refuse.ensures refl

pub returns : goal.returns
unfolding Plain.perform Plain.refusals numbers
returns c =
    let drops : c.eq.result ≡ overflows_at c.args.self c.args.m = search rules in
    let refuses : c.eq-refuses.result ≡ refuses_at c.args.self c.args.m = search rules in
    let d = c.relieve-next.ensures ∙ ap (relieved (numbers c.args.self.mail) c.args.m) drops in
    accepted_lent (Plain.send c.args.m c.args.message.now) c.args.store.now c.args.store.now _ (λ o s. store_after c.args.store.now o (buffers_for c.args.m c.args.message.now s) c.args.message.now) (λ o s e. rw e refl) c.in_default.field-0 (judged_send c.facts-f.ensures c.args.store.now c.args.message.now c.args.m c.relieve-next.result refl refl refuses d c.lacks.ensures c.in_default.ensures) (λ s H S p.
    let hm = leb-false mailboxes c.args.m p.1.0 in
    let same : c.args.m % 16 ≡ c.args.m = omega (arith, hm) in
    let twice : c.args.m % 16 % 16 ≡ c.args.m = omega (arith, hm) in
    let short = ltb-false longest (length c.args.message.now) p.1.1.0 in
    let long : length c.args.message.now ≡ length c.args.message.now % 65536 = omega (arith, short, longest_is) in
    let made = rw (twice, same, c.facts-f.ensures.slice, c.with_mail.ensures) at c.delivered-sent.ensures in (
      gives 0 0 [] _ c.answer.ensures (sent_holds H c.args.m S c.relieve-next.result d (length c.args.message.now % 65536) c.args.message.now long hm short p.1.1.1.1.0 made),
      c.pour.ensures ∙ sent_stored H c.args.m S c.relieve-next.result d (length c.args.message.now % 65536) c.args.message.now long hm short p.1.1.1.1.0 c.args.store.now (eqb-true (length c.args.store.now) store_size (not-false _ p.0)) _ (ap (λ (a : Numbers). a.chain) made.mail) c.lowest_free.ensures,
    ))
