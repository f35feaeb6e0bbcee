-- `kernel::Kernel::is_sound` meets its contract. Assumes nothing.
use Prim.Native.Nat.{ℕ}
use Rattle.kernel.proofs.Decided.{not_set, not_kept, not_seated, not_stocked, decided}
use Rattle.kernel.proofs.Kernel.is_sound.Goals as goal
use Rattle.plain.specs.Sizes.{processes, mailboxes, semaphores}
use borrow.Author.Rules.{rules}
use lib.ListN.{length, get_or}
use mathlib.Core.Path.{◌≡◌}
use mir.Syntax.{w16}
use mir.Val.{Fits}
use native.Mathlib.Omega.{arith}

pub returns-then-not-may_be_set : goal.returns-then-not-may_be_set
returns-then-not-may_be_set c = not_set c.args.self c.if-not-may_be_set.ensures

pub returns-then-not-may_be_kept : goal.returns-then-not-may_be_kept
returns-then-not-may_be_kept c = not_kept c.args.self c.if-not-may_be_kept.ensures

pub returns-in_default : goal.returns-in_default
returns-in_default c = not_seated c.args.self c.in_default.ensures

pub returns-then-not-stocked : goal.returns-then-not-stocked
returns-then-not-stocked c = not_stocked c.args.self c.if-not-stocked.ensures

pub returns : goal.returns
returns c =
    let long : length c.args.self.count ≡ semaphores = search rules in
    let wide : length c.args.self.births ≡ processes = search rules in
    let settled : (length c.args.self.settings.capacity ≡ mailboxes) × (length c.args.self.settings.mode ≡ mailboxes) = let settings = c.well_formed.0.1.1.1.1.1.1.0 in
    (search (settings, rules), search (settings, rules)) in
    let low : (i : ℕ) → Fits w16 (get_or c.args.self.count i 0) = λ i. search rules in
    decided c.args.self settled c.if-not-may_be_set.ensures c.if-not-may_be_kept.ensures wide long (λ i. omega (arith, (low i).fits)) c.in-Some.at c.in-Some.ensures c.if-not-stocked.ensures c.all_fit.result c.all_fit.ensures
