-- Every message that is held stands whole in the store, with what a call writes, and a room shows the message in hand.
-- Assumes nothing.
use Prim.Native.Nat.{ℕ, zero, suc, ◌≤◌}
use mathlib.Core.Bool.{Bool, true, false}
use mathlib.Core.List.{List, [], ◌∷◌, ◌++◌}
use mathlib.Core.Logic.{◌⊎◌, inl, inr, ⊎_elim}
use mathlib.Core.Option.{Option, none, some}
use mathlib.Core.Path.{◌≡◌, refl, sym, ap, ◌∙◌, subst}
use native.Mathlib.Omega.{arith}
use lib.Dec.{eqb}
use lib.ListN.{length, take, drop}
use lib.Seq.{take-length, take-append-le, length-take-le}
use borrow.Author.Tests.{eqb-true, eqb-false, ltb-false, leb-false, not-false}
use Rattle.lists.proofs.Laws.{put_cases}
use Rattle.std.specs.Prelude.{if◌then◌else◌}
use Rattle.lists.specs.Lists.{put, occurs}
use Rattle.plain.specs.Calls as Plain
use Rattle.plain.specs.Calls.{create, stop, end, yield, class, tick, mailbox, send, receive, read, release, signal, wait}
use Rattle.plain.specs.Mailboxes.{relieved, buffers_for}
use Rattle.plain.specs.Names.{bare}
use Rattle.plain.specs.Pages.{Whole}
use Rattle.plain.specs.Sizes.{mailboxes, buffers, store_size, longest, at_mailbox, at_semaphore}
use Rattle.plain.specs.Sound.{Sound}
use Rattle.plain.specs.State.{Message, Settings, State, start, Each, InHand, in_hand, held}
use Rattle.plain_laws.proofs.Mail.{Fits, each_rear, fits_free}
use Rattle.plain_laws.proofs.Refusals.{judge_cases, nonzero}
use Rattle.plain_laws.proofs.Relief.{relieved_cases}
use Rattle.plain_laws.proofs.Sound.{relieved_sound}
use Rattle.plain_laws.specs.History.{Passed}
use Rattle.promise.specs.Lent.{Lent, lends}
use Rattle.promise.specs.Promise.{no_store, with_store, poured, gathered, store_after, room_after, in_store, Has, Stored}
use Rattle.promise.specs.Theorems.{copied}
use Rattle.promise.proofs.Buffers.{gathered_long, gathered_other, poured_long, poured_there}
use Rattle.promise.proofs.Messages.{room_for, hand-buffers, of_queued, of_hands}
use Rattle.promise.proofs.Places.{AreBuffers}

pub start_stored : (x : Settings) (store : List ℕ) → length store ≡ store_size → Stored store (start x)
start_stored x store e = record { long = e; queued = λ m. tt; all_in_hands = λ p. tt }

-- ---- calls that write nothing

module _ (store : List ℕ) (s : State) (k : Stored store s) where
  moved : (t : State) → t.box ≡ s.box → t.hand ≡ s.hand → Stored store t
  moved t e h = record {
    long = k.long;
    queued = λ m. subst (λ (f : ℕ → List Message). Each (Has store) (f m)) (sym e) (k.queued m);
    all_in_hands = λ p. subst (λ (f : ℕ → Option Message). InHand (Has store) (f p)) (sym h) (k.all_in_hands p);
  }

  let_go : (p : ℕ) (t : State) → t.box ≡ s.box → t.hand ≡ put s.hand p none → Stored store t
  let_go p t e h = record {
    long = k.long;
    queued = λ m. subst (λ (f : ℕ → List Message). Each (Has store) (f m)) (sym e) (k.queued m);
    all_in_hands = λ q. subst (λ (f : ℕ → Option Message). InHand (Has store) (f q)) (sym h)
        (put_cases (InHand (Has store)) s.hand p none q (λ d. tt) (λ d. k.all_in_hands q));
  }

  lost : (m : ℕ) → Stored store (relieved m s)
  lost m = relieved_cases m s (Stored store) (λ e. k) (λ e. record {
    long = k.long;
    queued = λ i. put_cases (Each (Has store)) s.box m (drop 1 (s.box m)) i (λ d. others (s.box m) (k.queued m)) (λ d. k.queued i);
    all_in_hands = k.all_in_hands;
  })
    where
      others : (l : List Message) → Each (Has store) l → Each (Has store) (drop 1 l)
      others [] h = tt
      others (x ∷ l) h = h.1

  fetched : (m : ℕ) (l : List Message) → s.box m ≡ l → ([] ≡ (Plain.fetch m l s).message) × Stored store (Plain.fetch m l s).next
  fetched m [] e = (refl, moved (Plain.fetch m [] s).next refl refl)
  fetched m (x ∷ l) e =
      let was : Each (Has store) (x ∷ l) = subst (Each (Has store)) e (k.queued m) in (
        refl,
        record {
          long = k.long;
          queued = λ i. put_cases (Each (Has store)) s.box m l i (λ d. was.1) (λ d. k.queued i);
          all_in_hands = λ q. put_cases (InHand (Has store)) s.hand (Plain.caller s) (some x) q (λ d. was.0) (λ d. k.all_in_hands q);
        },
      )

  woken : (i : ℕ) (l : List ℕ) → Stored store (Plain.wake i l s)
  woken i [] = moved (Plain.wake i [] s) refl refl
  woken i (w ∷ l) = moved (Plain.wake i (w ∷ l) s) refl refl

  claimed : (i n : ℕ) → ([] ≡ (Plain.claim i n s).message) × Stored store (Plain.claim i n s).next
  claimed i zero = (refl, moved (Plain.claim i zero s).next refl refl)
  claimed i (suc n) = (refl, moved (Plain.claim i (suc n) s).next refl refl)

-- ---- a send

module _ (store : List ℕ) (s : State) (k : Sound s) (st : Stored store s) (m : ℕ) (x : Message) (f : Fits s.box s.hand x) where
  abbrev later : List ℕ
  later = poured store x.lies x.bytes

  -- its buffers, and numbers that are no buffers
  abbrev These : ℕ → Type 0
  These j = (buffers ≤ j) ⊎ (1 ≤ occurs j x.lies)

  nowhere : (j : ℕ) → These j → held s.box s.hand j ≡ 0
  nowhere j = ⊎_elim (k.mail.no_more_buffers j) (λ (o : 1 ≤ occurs j x.lies). omega (arith, f.once j))

  -- a message in other buffers stands as it stood
  kept : (y : Message) → ((j : ℕ) → These j → occurs j y.lies ≡ 0) → Whole y → Has store y → Has later y
  kept y away w h =
      let same = gathered_other x.lies store x.bytes y.lies st.long f.range (room_for x f.whole) (λ j z. away j (inl z)) (λ j z. away j (inr z)) in
      ap (take (length y.bytes)) same ∙ h

  boxes_kept : (q : ℕ) → Each (Has later) (s.box q)
  boxes_kept = of_queued These kept s k nowhere st.queued

  hands_kept : (p : ℕ) → InHand (Has later) (s.hand p)
  hands_kept = of_hands These kept s k nowhere st.all_in_hands

  long : length later ≡ store_size
  long = poured_long x.lies store x.bytes st.long f.range

  there : Has later x
  there = poured_there x.lies store x.bytes st.long f.range (λ j. omega (arith, f.once j)) (room_for x f.whole)

  delivered : (l : List ℕ) → Stored later (Plain.deliver m x l s)
  delivered [] = record {
    long = long;
    queued = λ q. put_cases (Each (Has later)) s.box m (s.box m ++ (x ∷ [])) q (λ d. each_rear (Has later) (s.box m) x (boxes_kept m) there) (λ d. boxes_kept q);
    all_in_hands = hands_kept;
  }
  delivered (w ∷ l) = record { long = long; queued = boxes_kept; all_in_hands = λ q. put_cases (InHand (Has later)) s.hand w (some x) q (λ d. there) (λ d. hands_kept q) }

-- the message of a send, which may come in where any drop has left its buffers free
abbrev pub posted : ℕ → List ℕ → State → Message
posted m b s = record { lies = buffers_for m b s; bytes = b }

abbrev pub ComesIn : ℕ → List ℕ → State → Type 0
ComesIn m b s = Fits (relieved m s).box (relieved m s).hand (posted m b s)

-- so it is of a send that is not refused
module _ (s : State) (k : Sound s) (m : ℕ) (b : List ℕ) (p : Passed (Plain.refusals s (send m b))) where
  finds : Sound (relieved m s)
  unfolding Plain.refusals
  finds = relieved_sound s k m (leb-false mailboxes m p.0)

  pub comes_in : ComesIn m b s
  unfolding Plain.refusals
  comes_in = fits_free (relieved m s) b finds.mail p.1.1.1.0 (ltb-false longest (length b) p.1.0)

-- ---- every call

-- what is shown in a room, and the store that is left, by what the call is lent
abbrev pub leaves : Lent → List ℕ → Plain.Outcome → State → List ℕ × List ℕ
leaves Lent.nothing store o s = ([], store)
leaves (Lent.bytes b at) store o s = ([], store_after store o (at s) b)
leaves (Lent.room n) store o s = (copied o.answer (in_store store (Plain.hand s)), store)

-- a call that takes a room and is done tells how long the message in hand is
abbrev Tells : State → Lent → Plain.Outcome → Type 0
Tells s Lent.nothing o = Unit {0}
Tells s (Lent.bytes b at) o = Unit {0}
Tells s (Lent.room n) o = o.answer.code ≡ 0 → o.answer.number ≡ length (Plain.bytes_in (Plain.hand s))

-- and over a store that holds every message, the message that it gives is shown, and the store holds what is held then
abbrev Kept : List ℕ → State → Lent → Plain.Outcome → Type 0
Kept store s l o = Tells s l o × (Stored store s → ((leaves l store o s).0 ≡ o.message) × Stored (leaves l store o s).1 o.next)

pub in_hand_lem : (store : List ℕ) (h : Option Message) → InHand (Has store) h → in_store store h ≡ Plain.bytes_in h
in_hand_lem store none k = refl
in_hand_lem store (some x) k = k

module _ (store : List ℕ) (s : State) (k : Sound s) where
  refused_kept : (l : Lent) (r : Plain.Refusal) → eqb r.code 0 ≡ false → Kept store s l (Plain.refused r s)
  refused_kept Lent.nothing r e = (tt, λ st. (refl, st))
  refused_kept (Lent.bytes b at) r e = (tt, λ st. (refl, rw e st))
  refused_kept (Lent.room n) r e = (λ z. absurd (eqb-false r.code 0 e z), λ st. (rw e refl, st))

  performed : (c : Plain.Call) → Passed (Plain.refusals s c) → Kept store s (lends c) (Plain.perform s c)
  unfolding Plain.perform Plain.refusals
  performed (create c) p = (tt, λ st. (refl, moved store s st _ refl refl))
  performed (stop n) p = (tt, λ st. (refl, let_go store s st (bare n) _ refl refl))
  performed end p = (tt, λ st. (refl, let_go store s st (Plain.caller s) _ refl refl))
  performed yield p = (tt, λ st. (refl, moved store s st _ refl refl))
  performed (class c) p = (tt, λ st. (refl, moved store s st _ refl refl))
  performed tick p = (tt, λ st. (refl, moved store s st _ refl refl))
  performed (mailbox m c d) p = (tt, λ st. (refl, moved store s st _ refl refl))
  performed (send m b) p = (tt, λ st. (refl, delivered store (relieved m s) (finds s k m b p) (lost store s st m) m (posted m b s) (comes_in s k m b p) (s.procs.queue (at_mailbox m))))
  performed (receive m) p = (tt, λ st. fetched store s st m (s.box m) refl)
  performed (read n) p = (λ z. refl, λ st. (rw (in_hand_lem store (Plain.hand s) (st.all_in_hands (Plain.caller s))) (take-length (Plain.bytes_in (Plain.hand s))), st))
  performed release p = (tt, λ st. (refl, let_go store s st (Plain.caller s) _ refl refl))
  performed (signal i) p = (tt, λ st. (refl, woken store s st i (s.procs.queue (at_semaphore i))))
  performed (wait i) p = (tt, λ st. claimed store s st i (s.count i))

  pub step_kept : (c : Plain.Call) → Kept store s (lends c) (Plain.step s c)
  unfolding Plain.step
  step_kept c = judge_cases (Kept store s (lends c)) (Plain.refusals s c) s (Plain.perform s c) (nonzero s c) (λ r e. refused_kept (lends c) r e) (performed c)

  -- the message in hand is as long in a whole store
  hand_long : length store ≡ store_size → (h : Option Message) → AreBuffers (in_hand h) → InHand Whole h → length (in_store store h) ≡ length (Plain.bytes_in h)
  hand_long e none r w = refl
  hand_long e (some x) r w = length-take-le (length x.bytes) (gathered store x.lies) (omega (arith, gathered_long x.lies store e r, room_for x w))

  module _ (c : Plain.Call) {n : ℕ} (is : lends c ≡ Lent.room n) where
    -- a call that takes a room tells how long the message in hand is in the store
    pub told_long : (with_store store c s).answer.code ≡ 0 → (with_store store c s).answer.number ≡ length (in_store store (Plain.hand s))
    unfolding with_store
    told_long =
        judge_cases (λ (o : Plain.Outcome). o.answer.code ≡ 0 → o.answer.number ≡ length (in_store store (Plain.hand s))) (no_store store ∷ []) s (Plain.step s c) (refl, tt)
        (λ r e z. absurd (eqb-false r.code 0 e z))
        (λ whole z. (rw is at (step_kept c).0) z
        ∙ sym (hand_long (eqb-true (length store) store_size (not-false _ whole.0)) (Plain.hand s) (hand-buffers s k (Plain.caller s)) (k.mail.all_in_hands (Plain.caller s))))

    -- and shows it there as it lies in the store, whatever else the room holds
    pub room-shown : (room : List ℕ) → copied (with_store store c s).answer (room_after store room (with_store store c s) s) ≡ copied (with_store store c s).answer (in_store store (Plain.hand s))
    room-shown room = go (eqb (with_store store c s).answer.code 0) refl
      where
        m : List ℕ
        m = in_store store (Plain.hand s)

        a : Plain.Answer
        a = (with_store store c s).answer

        go : (t : Bool) → eqb a.code 0 ≡ t → (if t then take a.number (if t then m ++ drop (length m) room else room) else []) ≡ (if t then take a.number m else [])
        go true e = take-append-le a.number m (drop (length m) room) (omega (arith, told_long (eqb-true a.code 0 e)))
        go false e = refl
