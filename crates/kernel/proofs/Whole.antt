-- A state is sound where its processes are, its mail is, and each process fits what lies where it waits.
-- Assumes nothing.
use Prim.Native.Nat.{ℕ, suc, ◌≤◌, ◌<◌}
use mathlib.Core.Bool.{Bool, false, not, true≢false}
use mathlib.Core.List.{List}
use mathlib.Core.Logic.{◌≢◌, ⊎_elim}
use mathlib.Core.Option.{Option, none}
use mathlib.Core.Path.{◌≡◌, sym, ap, ◌∙◌}
use native.Mathlib.Omega.{arith}
use lib.Dec.{eqb}
use lib.ListN.{get_or}
use borrow.Author.Tests.{eqb-true, eqb-false}
use Rattle.std.proofs.lemmas.Bool.{cases_Bool, cases_eq}
use Rattle.lists.proofs.Laws.{nobody, le?, one_other, total_zero}
use Rattle.lists.specs.Lists.{someone, occurs}
use Rattle.bits.proofs.Words.{word_has}
use Rattle.bits.specs.Word.{width, word, bits}
use Rattle.rings.proofs.Walks.{stands_nowhere, stands_there}
use Rattle.rings.specs.Ring.{Absent}
use Rattle.rings.specs.Walk.{Stand}
use Rattle.plain.specs.Calls.{is_empty}
use Rattle.plain.specs.Sizes.{processes, mailboxes, semaphores, queues, highest_count, at_mailbox, at_semaphore}
use Rattle.plain.specs.Names.{Births}
use Rattle.plain.specs.Sound.{Sound, Seated, Highest, Mail, In}
use Rattle.plain.specs.Start.{Set as Settled}
use Rattle.plain.specs.State as State
use Rattle.plain.specs.State.{Message, State, places}
use Rattle.plain_laws.proofs.Places.{runs_once}
use Rattle.plain_laws.proofs.Seats.{member, nowhere}
use Rattle.mail.specs.Carries as Carries
use Rattle.waits.specs.Waits.{HandFits, WaitFits}
use Rattle.kernel.proofs.Reading.{empty_hand_is}

-- who stands in no queue and does not run is in no place
nowhere_at-all : (r : State.Procs) (p : ℕ) → r.running ≢ p → Absent p r.queue → places r p ≡ 0
unfolding State.spots
nowhere_at-all r p d o = omega (arith, one_other r.running p d, total_zero queues (λ q. occurs p (r.queue q)) (λ q b. o q))

module _ (s : State) (at : List ℕ) (full : ℕ) (holding : ℕ → Bool) (is-full : full ≡ word width (Carries.is_full s.hand)) (is-holding : (m : ℕ) → m < mailboxes → holding m ≡ someone (s.box m)) (stands : Stand s.procs.queue at) where
  full_bit : (p : ℕ) → p < processes → bits full p ≡ not (is_empty (s.hand p))
  full_bit p h = word_has width (Carries.is_full s.hand) is-full p h

  hand_empty : (p : ℕ) → p < processes → bits full p ≡ false → s.hand p ≡ none
  hand_empty p h e = empty_hand_is (s.hand p) (sym (full_bit p h) ∙ e)

  pub empty_bit : (p : ℕ) → p < processes → s.hand p ≡ none → bits full p ≡ false
  empty_bit p h e = full_bit p h ∙ ap (λ (a : Option Message). not (is_empty a)) e

  -- in a sound state each process fits
  pub fits : Sound s → (p : ℕ) → 1 ≤ p → p < processes → WaitFits (get_or at p 0) (eqb p s.procs.running) (bits full p) holding s.count
  fits k p h h' =
      let there : (q : ℕ) → get_or at p 0 ≡ suc q → In s.procs q p = λ q e. stands_there s.procs.queue at stands p q (omega arith) in
      record {
        hand = λ f. record {
          used = λ z. ⊎_elim (λ e. e)
              (λ (e : eqb p s.procs.running ≡ false). absurd (true≢false (sym f ∙ empty_bit p h' (k.hands.unused p
              (nowhere_at-all s.procs p (λ d. eqb-false p s.procs.running e (sym d)) (stands_nowhere s.procs.queue at stands p z))))))
              (cases_Bool (eqb p s.procs.running));
          at_no_mailbox = λ m b e. true≢false (sym f ∙ empty_bit p h' (k.hands.waiters m p b (there (at_mailbox m) e)));
        };
        lying = record {
          at_a_mailbox = λ m b e. is-holding m b ∙ ap someone (k.waits.boxes m p b (there (at_mailbox m) e));
          at_a_semaphore = λ i b e. k.waits.counts i p b (there (at_semaphore i) e);
        };
      }

  -- where each process fits, sound processes and sound mail make a sound state
  pub whole : Settled s.settings → Births s.births → Seated s.settings.slice s.procs → Highest s.procs → Mail s.settings.capacity s.box s.hand → ((p : ℕ) → processes ≤ p → s.hand p ≡ none) → ((i : ℕ) → s.count i ≤ highest_count)
      → ((i : ℕ) → semaphores ≤ i → s.count i ≡ 0) → bits full 0 ≡ false
      → ((p : ℕ) → 1 ≤ p → p < processes → WaitFits (get_or at p 0) (eqb p s.procs.running) (bits full p) holding s.count) → Sound s
  whole settings births seated highest mail no_more_hands counts no-more-counts null fit =
      let who : (q p : ℕ) → In s.procs q p → (1 ≤ p) × (p < processes) = λ q p o. member s.settings.slice s.procs seated q p o in
      let there : (q p : ℕ) → In s.procs q p → get_or at p 0 ≡ suc q = λ q p o. omega (arith, stands.there p q o) in
      let no-hand : (p : ℕ) → 1 ≤ p → p < processes → (HandFits (get_or at p 0) (eqb p s.procs.running) → ⊥) → s.hand p ≡ none = λ p h h' n.
      hand_empty p h' (⊎_elim (λ e. absurd (n ((fit p h h').hand e))) (λ e. e) (cases_Bool (bits full p))) in
      record {
        settings = settings;
        seated = seated;
        highest = highest;
        mail = mail;
        hands = record {
          unused = λ p z. ⊎_elim (λ h. no_more_hands p h)
              (λ (h : p < processes). ⊎_elim (λ (e : p ≡ 0). rw e (hand_empty 0 (omega arith) null))
              (λ (e : p ≢ 0). no-hand p (omega arith) h (λ f. omega (
                arith,
                runs_once s.procs,
                ap (places s.procs) (eqb-true p s.procs.running (f.used (stands.nowhere p (λ q. nowhere s.settings.slice s.procs seated p q z)))),
              )))
              (cases_eq p 0))
              (le? processes p);
          null = hand_empty 0 (omega arith) null;
          waiters = λ m p h o. let w = who (at_mailbox m) p o in no-hand p w.0 w.1 (λ f. f.at_no_mailbox m h (there (at_mailbox m) p o));
        };
        waits = record {
          boxes = λ m p h o. let w = who (at_mailbox m) p o in nobody (s.box m) (sym (is-holding m h) ∙ (fit p w.0 w.1).lying.at_a_mailbox m h (there (at_mailbox m) p o));
          counts = λ i p h o. let w = who (at_semaphore i) p o in (fit p w.0 w.1).lying.at_a_semaphore i h (there (at_semaphore i) p o);
        };
        counts = record { most = counts; no_more = no-more-counts };
        births = births;
      }
