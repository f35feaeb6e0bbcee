-- Mailboxes of the code and of the plain kernel: which are full, busy, or lose their oldest message, and one that is set anew.
-- Assumes nothing.
use Prim.Native.Nat.{ℕ, ◌%◌, ◌≤◌, ◌<◌}
use mathlib.Core.Bool.{Bool, true, false, not, ◌&&◌, not-not}
use mathlib.Core.List.{List, [], ◌∷◌}
use mathlib.Core.Logic.{⊎_elim}
use mathlib.Core.Path.{◌≡◌, refl, sym, ap, ap₂, ◌∙◌, subst}
use native.Mathlib.Omega.{arith}
use lib.Dec.{leb, eqb}
use lib.ListN.{length, set, length-set}
use borrow.Author.Tests.{leb-false}
use Rattle.std.proofs.lemmas.Bool.{cases_Bool}
use Rattle.lists.proofs.Laws.{le?}
use Rattle.plain.specs.Calls as Plain
use Rattle.plain.specs.Calls.{on, no_mailbox}
use Rattle.plain.specs.Mailboxes.{allotted, allot, busy, is_full, drops, refuses, overflows, relieved, buffers_for, no_buffers}
use Rattle.plain.specs.Sizes.{mailboxes, longest, store_size, at_mailbox}
use Rattle.plain.specs.Pages.{needed}
use Rattle.plain.specs.Sound.{Sound}
use Rattle.plain.specs.State.{Settings, State, usual}
use Rattle.plain_laws.proofs.Mail.{taken_range}
use Rattle.plain_laws.proofs.Relief.{relieved_cases, overflow_full}
use Rattle.plain_laws.proofs.Sound.{relieved_sound}
use Rattle.procs.specs.Moves.{first_of, woken}
use Rattle.procs.specs.Stands as Stands
use Rattle.mail.proofs.Looks as Looks
use Rattle.mail.proofs.Looks.{full_box, empty_box}
use Rattle.mail.proofs.Moves.{relieved_carries, delivered-run}
use Rattle.chains.specs.Links.{run}
use Rattle.pages.proofs.Whole.{laid-poured}
use Rattle.pages.specs.Pieces.{laid}
use Rattle.promise.specs.Promise.{poured}
use Rattle.mail.specs.Carries as Carries
use Rattle.mail.specs.Moves as Mail
use Rattle.mail.specs.declared.Mail as Mail'
use Rattle.habits.proofs.Laws.{entry_set}
use Rattle.verdicts.specs.Chain.{found}
use Rattle.kernel.specs.Full.{is_full_at, drops_at, refuses_at, overflows_at, busy_at}
use Rattle.kernel.specs.Holds.{settings_of, Holds}
use Rattle.kernel.specs.Judged.{Made}
use Rattle.kernel.specs.declared.Kernel.{Kernel}
use Rattle.kernel.proofs.Changes.{delivered_holds, someone_first}
use Rattle.kernel.proofs.Judging.{stops}

module _ {k : Kernel} {s : State} (H : Holds k s) (m : ℕ) where
  full_is : is_full_at k m ≡ is_full m s
  full_is = full_box H.mail m ((settings_of k).capacity m) ∙ ap (λ (x : Settings). leb (x.capacity m) (length (s.box m))) (sym H.settings.is)

  drops_is : drops_at k m ≡ drops m s
  drops_is = ap (λ (x : Settings). eqb (x.mode m) 1) (sym H.settings.is)

  pub refuses_is : refuses_at k m ≡ refuses m s
  unfolding refuses
  refuses_is = ap₂ (λ (a b : Bool). a && not b) full_is drops_is

  overflows_is : overflows_at k m ≡ overflows m s
  unfolding overflows
  overflows_is = ap₂ (λ (a b : Bool). a && b) full_is drops_is

  -- ---- a send

  module _ (S : Sound s) (mail : Mail'.Mail) (e : Carries.numbers mail ≡ Mail.relieved (Carries.numbers k.mail) m (overflows_at k m)) where
    -- past the last mailbox nothing is full
    relieved_carried : Carries.Carries (Mail.relieved (Carries.numbers k.mail) m (overflows m s)) (relieved m s).box (relieved m s).hand
    unfolding Mail.relieved
    relieved_carried = ⊎_elim
        (λ h. relieved_cases m s (λ t. Carries.Carries (Mail.relieved (Carries.numbers k.mail) m (overflows m s)) t.box t.hand)
        (λ z. rw z H.mail)
        (λ z. absurd (omega (arith, overflow_full m s z, S.settings.habits.some m, ap length (S.mail.no_more_boxes m h)))))
        (λ h. relieved_carries s H.mail S.mail m h (S.settings.habits.some m))
        (le? mailboxes m)

    carried : Carries.Carries (Carries.numbers mail) (relieved m s).box (relieved m s).hand
    carried = subst (λ (n : Carries.Numbers). Carries.Carries n (relieved m s).box (relieved m s).hand) (ap (Mail.relieved (Carries.numbers k.mail) m) (sym overflows_is) ∙ sym e) relieved_carried

    pub lacks_is : (x : List ℕ) → Mail.lacks (Carries.numbers mail) (length x) ≡ no_buffers m x s
    lacks_is x = Looks.lacks_is (relieved m s) carried (length x)

    abbrev cleared : Kernel
    cleared = record { procs = k.procs; mail = mail; count = k.count; births = k.births; settings = k.settings }

    relieved_holds : Holds cleared (relieved m s)
    relieved_holds = relieved_cases m s (λ t. Carries.Carries (Carries.numbers mail) t.box t.hand → Holds cleared t)
        (λ z C. record { procs = H.procs; mail = C; counts = H.counts; births = H.births; settings = H.settings })
        (λ z C. record { procs = H.procs; mail = C; counts = H.counts; births = H.births; settings = H.settings })
        carried

    -- message x takes its buffers, once mailbox m has lost what it drops, and the links lead through them
    module _ (n : ℕ) (x : List ℕ) (long : length x ≡ n) (h : m < mailboxes) (short : length x ≤ longest) (enough : no_buffers m x s ≡ false) where
      pub sent_holds : {r : Kernel}
          → Made r (woken (settings_of k).slice (at_mailbox m) (Stands.numbers k.procs)) (Mail.delivered (Carries.numbers mail) m (first_of (Stands.numbers k.procs) (at_mailbox m)) n) k.count k.births k.settings
          → Holds r (Plain.deliver m (record { lies = buffers_for m x s; bytes = x }) (s.procs.queue (at_mailbox m)) (relieved m s))
      sent_holds {r} M =
          let waiting : (relieved m s).procs.queue (at_mailbox m) ≡ s.procs.queue (at_mailbox m) = relieved_cases m s (λ t. t.procs.queue (at_mailbox m) ≡ s.procs.queue (at_mailbox m)) (λ z. refl) (λ z. refl) in
          subst (λ (l : List ℕ). Holds r (Plain.deliver m (record { lies = buffers_for m x s; bytes = x }) l (relieved m s))) waiting (delivered_holds relieved_holds (relieved_sound s S m h) m n x long h short enough M)

      sent-run : (w : ℕ) → run (Mail.delivered (Carries.numbers mail) m w n).chain (needed (length x)) (Mail.lowest_free (Carries.numbers mail)) ≡ buffers_for m x s
      sent-run w = delivered-run (relieved m s) carried (relieved_sound s S m h).mail x n long enough short m w

      pub sent_stored : (store : List ℕ) → length store ≡ store_size → (w : ℕ) {t : List ℕ} {b : ℕ} → t ≡ (Mail.delivered (Carries.numbers mail) m w n).chain → b ≡ Mail.lowest_free (Carries.numbers mail)
          → laid store (run t (needed (length x)) b) x ≡ poured store (buffers_for m x s) x
      sent_stored store e w c f =
          ap₂ (λ (t : List ℕ) (b : ℕ). laid store (run t (needed (length x)) b) x) c f
          ∙ (ap (λ (l : List ℕ). laid store l x) (sent-run w) ∙ laid-poured (buffers_for m x s) store x e (λ j z. taken_range (relieved m s) j (needed (length x)) z))

  -- ---- a mailbox that is set anew

  busy_is : Sound s → m < mailboxes → busy_at k m ≡ busy m s
  unfolding busy
  busy_is S h =
      let same : m % mailboxes ≡ m = omega arith in
      rw (empty_box H.mail m, not-not, same, someone_first H S (at_mailbox m) (s.procs.queue (at_mailbox m)) refl) refl

  pub busy-found : Sound s → (r : Plain.Refusal) → found (no_mailbox m ∷ r ∷ on 18 (busy m s) ∷ []) ≡ found (no_mailbox m ∷ r ∷ on 18 (busy_at k m) ∷ [])
  busy-found S r = ⊎_elim
      (λ (e : leb mailboxes m ≡ true). stops (no_mailbox m) (r ∷ on 18 (busy m s) ∷ []) e (λ z. omega arith) ∙ sym (stops (no_mailbox m) (r ∷ on 18 (busy_at k m) ∷ []) e (λ z. omega arith)))
      (λ (e : leb mailboxes m ≡ false). ap (λ (b : Bool). found (no_mailbox m ∷ r ∷ on 18 b ∷ [])) (sym (busy_is S (leb-false mailboxes m e))))
      (cases_Bool (leb mailboxes m))

  pub allotted_holds : {r : Kernel} (c d : ℕ) → m < mailboxes
      → r ≡ record { procs = k.procs; mail = k.mail; count = k.count; births = k.births; settings = record { slice = k.settings.slice; capacity = set k.settings.capacity m c; mode = set k.settings.mode m d } }
      → Holds r (allot m c d s)
  allotted_holds c d h e = rw e (record {
    procs = H.procs;
    mail = H.mail;
    counts = H.counts;
    births = H.births;
    settings = record {
      is = ap (allotted m c d) H.settings.is
          ∙ ap₂ (λ (f g : ℕ → ℕ). record { slice = k.settings.slice; capacity = f; mode = g }) (sym (entry_set usual.capacity k.settings.capacity m c H.settings.capacities h)) (sym (entry_set usual.mode k.settings.mode m d H.settings.modes h));
      capacities = length-set k.settings.capacity m c ∙ H.settings.capacities;
      modes = length-set k.settings.mode m d ∙ H.settings.modes;
    };
  })
