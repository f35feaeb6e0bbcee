-- A fresh kernel holds a fresh state, and a fresh start gives what the plain kernel does.
-- Assumes nothing.
use Prim.Native.Nat.{ℕ}
use mathlib.Core.List.{[]}
use mathlib.Core.Path.{◌≡◌, refl, sym, ap, subst}
use native.Mathlib.Omega.{arith}
use lib.ListN.{length, replicate}
use borrow.Author.Tests.{ne_eqb}
use Rattle.plain.specs.Calls as Plain
use Rattle.plain.specs.Sizes.{processes, mailboxes, semaphores}
use Rattle.plain.specs.Start.{Set, slice_of, start_refusals, fresh_start}
use Rattle.plain.specs.State.{start, fresh}
use Rattle.plain_laws.proofs.Refusals.{Proper}
use Rattle.plain_laws.proofs.Start.{passes-set}
use Rattle.std.specs.Prelude.{Ok, Err}
use Rattle.verdicts.proofs.Chained.{told_err, told_ok}
use Rattle.verdicts.proofs.Found.{Finds, refuses, passes, finds}
use Rattle.verdicts.specs.Chain.{Verdict, found}
use Rattle.verdicts.specs.Told.{told}
use Rattle.verdicts.specs.declared.Refusal.{Refusal}
use Rattle.procs.proofs.Kept.{fresh_kept}
use Rattle.procs.specs.Moves as Procs
use Rattle.mail.proofs.Moves.{fresh_carries}
use Rattle.mail.specs.Moves as Mail
use Rattle.lists.proofs.Laws.{zero_entries}
use Rattle.kernel.specs.Holds.{named, Holds}
use Rattle.kernel.specs.Judged.{answered, refused_with, Made}
use Rattle.kernel.specs.Promise.{Starts}
use Rattle.kernel.specs.declared.Done.{Done}
use Rattle.kernel.specs.declared.Kernel.{Kernel}
use Rattle.kernel.specs.declared.Settings.{Settings}
use Rattle.kernel.proofs.Changes.{made_holds}
use Rattle.kernel.proofs.Judging.{runner_is, gives}

pub fresh_holds : {k : Kernel} {x : Settings} → Made k Procs.fresh Mail.fresh_mail (replicate semaphores 0) (replicate processes 0) x → length x.capacity ≡ mailboxes → length x.mode ≡ mailboxes → Holds k (start (named x))
fresh_holds M long long' = made_holds M fresh_kept fresh_carries (zero_entries semaphores) (zero_entries processes) (record { is = refl; capacities = long; modes = long' })

start_proper : (n : ℕ) → Proper (start_refusals n)
start_proper n = omega arith

module _ (n : ℕ) {k : Kernel} {r : Done} where
  -- refused, the usual settings hold
  pub refused-start : (x : Refusal) → told (Err x) ≡ found (start_refusals n) → Holds k fresh → r ≡ refused_with k (told (Err x)) → Starts n r
  unfolding fresh_start
  refused-start x j H e = go (subst (Finds (start_refusals n)) (sym j) (finds (start_refusals n) (start_proper n)))
    where
      go : Finds (start_refusals n) (told (Err x)) → Starts n r
      go (refuses z y g) = rw (e, g fresh (Plain.done 0 (start (slice_of n)))) (record { next = H; answer = rw (ne_eqb (told (Err x)).code 14 y, runner_is k fresh H) refl })
      go (passes z p g) = absurd (told_err (Err x) refl (ap (λ (w : Verdict). w.code) z))

  -- accepted, those that were named
  pub accepted_start : (u : Unit {0}) → told (Ok u) ≡ found (start_refusals n) → (Set (slice_of n) → Holds k (start (slice_of n))) → r ≡ answered k 0 0 → Starts n r
  unfolding fresh_start
  accepted_start u j H e = go (subst (Finds (start_refusals n)) (sym j) (finds (start_refusals n) (start_proper n)))
    where
      go : Finds (start_refusals n) (told (Ok u)) → Starts n r
      go (refuses d y g) = absurd (d (told_ok (Ok u) refl))
      go (passes w p g) = rw (g fresh (Plain.done 0 (start (slice_of n)))) (gives 0 0 [] r e (H (passes-set n p.0)))
