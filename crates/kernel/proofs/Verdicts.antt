-- The verdicts are those of the plain kernel: what is read off a state is what its refusals ask.
-- Assumes nothing.
use Prim.Native.Nat.{ℕ}
use mathlib.Core.Bool.{Bool, not, ◌||◌, not-not}
use mathlib.Core.List.{List, [], ◌∷◌}
use mathlib.Core.Path.{◌≡◌, refl, ◌∙◌}
use lib.Dec.{eqb, ltb}
use lib.ListN.{length, get_or}
use Rattle.procs.proofs.Looks.{lowest-unused, no_process_lem}
use Rattle.procs.specs.Moves.{lowest_unused, unused_at}
use Rattle.procs.specs.Stands as Stands
use Rattle.plain.specs.Calls as Plain
use Rattle.plain.specs.Calls.{on, no_class, no_mailbox, no_semaphore}
use Rattle.plain.specs.Mailboxes.{no_size}
use Rattle.plain.specs.Names.{bare, names}
use Rattle.plain.specs.Sizes.{processes, longest, highest_count, store_size}
use Rattle.plain.specs.State.{State}
use Rattle.mail.specs.Carries.{numbers}
use Rattle.mail.specs.Moves.{lacks, has_message, length_in_hand, relieved}
use Rattle.mail.specs.declared.Mail.{Mail}
use Rattle.verdicts.specs.Chain.{Verdict, found}
use Rattle.verdicts.specs.declared.Facts.{Facts}
use Rattle.kernel.specs.Holds.{Holds}
use Rattle.kernel.specs.Full.{refuses_at, overflows_at, busy_at}
use Rattle.kernel.specs.Facts.{Gathered}
use Rattle.kernel.specs.Judged.{Judged}
use Rattle.names.proofs.Laws.{counts_are}
use Rattle.names.specs.Counts.{count_in}
use Rattle.plain_laws.proofs.Names.{named}
use Rattle.promise.specs.Promise.{no_store}
use Rattle.kernel.specs.declared.Kernel.{Kernel}
use Rattle.kernel.proofs.Fullness.{refuses_is, lacks_is, busy-found}
use Rattle.kernel.proofs.Judging.{runner_is, judged-found, judged_by}
use Rattle.kernel.proofs.Reading.{hand_full, length-held}

runs : {k : Kernel} {f : Facts} → Gathered k f → (s : State) → Holds k s → f.runner.0 ≡ s.procs.running
runs {k} G s H = G.runner ∙ runner_is k s H

module _ {k : Kernel} {f : Facts} {v : Verdict} (G : Gathered k f) where
  pub judged_tick : v ≡ found (on 14 (not f.sound) ∷ []) → Judged (λ s. Plain.refusals s Plain.tick) k v
  unfolding Plain.refusals
  judged_tick e = judged_by f.sound G.sound e (λ s H. refl)

  pub judged_end : v ≡ found (on 14 (not f.sound) ∷ on 5 (eqb f.runner.0 0) ∷ []) → Judged (λ s. Plain.refusals s Plain.end) k v
  unfolding Plain.refusals
  judged_end e = judged_by f.sound G.sound e (λ s H. rw (runs G s H) refl)

  pub judged_yield : v ≡ found (on 14 (not f.sound) ∷ on 5 (eqb f.runner.0 0) ∷ []) → Judged (λ s. Plain.refusals s Plain.yield) k v
  unfolding Plain.refusals
  judged_yield e = judged_by f.sound G.sound e (λ s H. rw (runs G s H) refl)

  pub judged_create : (c : ℕ) {p : ℕ} → p ≡ lowest_unused (Stands.numbers k.procs) → v ≡ found (on 14 (not f.sound) ∷ no_class c ∷ on 10 (eqb p processes) ∷ []) → Judged (λ s. Plain.refusals s (Plain.create c)) k v
  unfolding Plain.refusals
  judged_create c b e = judged_by f.sound G.sound e (λ s H. rw (b, lowest-unused H.procs) refl)

  pub judged_stop : (n : ℕ) {p : ℕ} {is_name unused : Bool} → p ≡ bare n → is_name ≡ names (count_in k.births) n → unused ≡ unused_at (Stands.numbers k.procs) p → v ≡ found (on 14 (not f.sound) ∷ on 1 (eqb p 0 || (not is_name || unused)) ∷ []) → Judged (λ s. Plain.refusals s (Plain.stop n)) k v
  unfolding Plain.refusals
  judged_stop n a b c e = judged_by f.sound G.sound e (λ s H. rw (c, a, b, counts_are H.births, no_process_lem H.procs (names s.births n) (bare n) (λ z. (named s.births n z).0)) refl)

  pub judged_class : (c : ℕ) → v ≡ found (on 14 (not f.sound) ∷ on 5 (eqb f.runner.0 0) ∷ no_class c ∷ []) → Judged (λ s. Plain.refusals s (Plain.class c)) k v
  unfolding Plain.refusals
  judged_class c e = judged_by f.sound G.sound e (λ s H. rw (runs G s H) refl)

  pub judged_mailbox : (m c d : ℕ) {busy : Bool} → busy ≡ busy_at k m → v ≡ found (on 14 (not f.sound) ∷ no_mailbox m ∷ on 17 (no_size c d) ∷ on 18 busy ∷ []) → Judged (λ s. Plain.refusals s (Plain.mailbox m c d)) k v
  unfolding Plain.refusals
  judged_mailbox m c d {busy} b e = judged-found f.sound G.sound (no_mailbox m ∷ on 17 (no_size c d) ∷ on 18 busy ∷ []) e (λ s H S. rw b (busy-found H m S (on 17 (no_size c d))))

  pub judged_send : (store x : List ℕ) {held n : ℕ} (m : ℕ) {full few : Bool} (mail : Mail) → length store ≡ held → length x ≡ n → full ≡ refuses_at k m → numbers mail ≡ relieved (numbers k.mail) m (overflows_at k m) → few ≡ lacks (numbers mail) (length x) → v ≡ found (on 14 (not f.sound) ∷ on 15 (not (eqb held store_size)) ∷ no_mailbox m ∷ on 6 (ltb longest n) ∷ on 11 full ∷ on 12 few ∷ []) → Judged (λ s. no_store store ∷ Plain.refusals s (Plain.send m x)) k v
  unfolding Plain.refusals
  judged_send store x {held} {n} m {full} {few} mail d l is relief short e =
      judged-found f.sound G.sound (on 15 (not (eqb held store_size)) ∷ no_mailbox m ∷ on 6 (ltb longest n) ∷ on 11 full ∷ on 12 few ∷ []) e (λ s H S. rw (d, is, refuses_is H m, short, lacks_is H m S mail relief x, l) refl)

  pub judged_receive : (m : ℕ) {hand : Bool} → hand ≡ has_message (numbers k.mail) k.procs.running.0 → v ≡ found (on 14 (not f.sound) ∷ on 5 (eqb f.runner.0 0) ∷ no_mailbox m ∷ on 7 hand ∷ []) → Judged (λ s. Plain.refusals s (Plain.receive m)) k v
  unfolding Plain.refusals
  judged_receive m h e = judged_by f.sound G.sound e (λ s H. rw (runs G s H, h, hand_full H) refl)

  pub judged_release : {hand : Bool} → hand ≡ has_message (numbers k.mail) k.procs.running.0 → v ≡ found (on 14 (not f.sound) ∷ on 5 (eqb f.runner.0 0) ∷ on 8 (not hand) ∷ []) → Judged (λ s. Plain.refusals s Plain.release) k v
  unfolding Plain.refusals
  judged_release h e = judged_by f.sound G.sound e (λ s H. rw (runs G s H, h, hand_full H, not-not) refl)

  pub judged_read : (store : List ℕ) {held : ℕ} (room : ℕ) {hand : Bool} {n : ℕ} → length store ≡ held → hand ≡ has_message (numbers k.mail) k.procs.running.0 → n ≡ length_in_hand (numbers k.mail) k.procs.running.0 → v ≡ found (on 14 (not f.sound) ∷ on 15 (not (eqb held store_size)) ∷ on 5 (eqb f.runner.0 0) ∷ on 8 (not hand) ∷ record { code = 9; number = n; holds = ltb room n } ∷ []) → Judged (λ s. no_store store ∷ Plain.refusals s (Plain.read room)) k v
  unfolding Plain.refusals
  judged_read store room d h l e = judged_by f.sound G.sound e (λ s H. rw (d, runs G s H, h, hand_full H, not-not, l, length-held H) refl)

  pub judged_signal : (i : ℕ) {count : ℕ} → count ≡ get_or k.count i 0 → v ≡ found (on 14 (not f.sound) ∷ no_semaphore i ∷ on 13 (eqb count highest_count) ∷ []) → Judged (λ s. Plain.refusals s (Plain.signal i)) k v
  unfolding Plain.refusals
  judged_signal i b e = judged_by f.sound G.sound e (λ s H. rw (b, H.counts.each i) refl)

  pub judged_wait : (i : ℕ) → v ≡ found (on 14 (not f.sound) ∷ on 5 (eqb f.runner.0 0) ∷ no_semaphore i ∷ []) → Judged (λ s. Plain.refusals s (Plain.wait i)) k v
  unfolding Plain.refusals
  judged_wait i e = judged_by f.sound G.sound e (λ s H. rw (runs G s H) refl)
