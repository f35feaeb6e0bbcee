-- What the tests of a state say together: it holds a sound state, or none.
-- Assumes nothing.
use Prim.Native.Nat.{ℕ, ◌+◌, ◌≤◌, ◌<◌}
use mathlib.Core.Bool.{Bool, true, false}
use mathlib.Core.List.{List, [], ◌∷◌, map}
use mathlib.Core.Option.{Option}
use mathlib.Core.Path.{◌≡◌, refl, sym, ap, ◌∙◌, subst, fun_ext}
use native.Mathlib.Omega.{arith}
use lib.Dec.{ltb}
use Rattle.std.specs.Prelude.{Some, None}
use lib.ListN.{length, get_or, get_or-eq_default}
use borrow.Author.Tests.{lt-ltb, le-ltb}
use Rattle.lists.specs.Lists.{someone}
use Rattle.rings.proofs.Laws.{one-reading}
use Rattle.rings.proofs.Looks.{first_some, first_none}
use Rattle.rings.specs.Moves.{first}
use Rattle.rings.specs.Decides.{Decides}
use Rattle.rings.specs.Walk.{Stand}
use Rattle.boxes.specs.Box as Box
use Rattle.boxes.specs.Box.{num}
use Rattle.plain.specs.Names.{Births}
use Rattle.plain.specs.Sizes.{processes, mailboxes, buffers, semaphores}
use Rattle.plain.specs.Sound.{Mail}
use Rattle.plain.specs.Start.{Set}
use Rattle.plain.specs.State as State
use Rattle.plain.specs.State.{Message, Settings, State}
use Rattle.procs.specs.Stands as Stands
use Rattle.mail.specs.Carries as Carries
use Rattle.names.proofs.Laws.{counts_are}
use Rattle.names.specs.Counts.{count_in}
use Rattle.seats.specs.Seats as Seats
use Rattle.stock.specs.Stock as Stock
use Rattle.kernel.specs.Holds.{settings_of, IsSound}
use Rattle.waits.specs.Waits.{AllFit, is_holding}
use Rattle.kernel.specs.declared.Kernel.{Kernel}
use Rattle.kernel.proofs.Changes.{slice_is}
use Rattle.kernel.proofs.Reading.{top}
use Rattle.kernel.proofs.Whole.{fits, empty_bit, whole}

module _ (k : Kernel) where
  -- the ticks of a full slice
  abbrev slice : ℕ
  slice = (settings_of k).slice

  -- how many messages each mailbox takes
  abbrev capacity : ℕ → ℕ
  capacity = (settings_of k).capacity

  -- the tables of settings have an entry for each mailbox
  abbrev Wide : Type 0
  Wide = (length k.settings.capacity ≡ mailboxes) × (length k.settings.mode ≡ mailboxes)

  pub not_set : (Set (settings_of k) → ⊥) → IsSound k → ⊥
  not_set never (s, H, S) = never (subst Set H.settings.is S.settings)

  pub not_kept : (Births (count_in k.births) → ⊥) → IsSound k → ⊥
  not_kept never (s, H, S) = never (rw (counts_are H.births) S.births)

  pub not_seated : Seats.Decision slice (Stands.numbers k.procs) None → IsSound k → ⊥
  not_seated never (s, H, S) = never s.procs (record { keeps = H.procs; seated = rw (slice_is H) S.seated; highest = S.highest })

  pub not_stocked : Stock.Decision (Carries.numbers k.mail) capacity false → IsSound k → ⊥
  not_stocked never (s, H, S) = never s.box s.hand (record { carries = H.mail; mail = subst (λ (x : Settings). Mail x.capacity s.box s.hand) H.settings.is S.mail })

  module _ {box : ℕ → List Message} {hand : ℕ → Option Message} (C : Carries.Carries (Carries.numbers k.mail) box hand) where
    front_holds : (m : ℕ) (l : List Message) → box m ≡ l → ltb (first buffers mailboxes (Carries.numbers k.mail).tables m) buffers ≡ someone l
    front_holds m [] e = le-ltb (first buffers mailboxes (Carries.numbers k.mail).tables m) buffers (first_none C.boxes m (ap Carries.firsts e))
    front_holds m (x ∷ l) e =
        let f = first_some C.boxes m (Carries.first_of x) (Carries.firsts l) (ap Carries.firsts e) in
        lt-ltb (first buffers mailboxes (Carries.numbers k.mail).tables m) buffers (omega (arith, f.0, f.1))

    front_is : (m : ℕ) → m < mailboxes → first buffers mailboxes (Carries.numbers k.mail).tables m ≡ get_or (map num k.mail.boxes.next) (buffers + m) 0
    unfolding first Carries.numbers Box.tables_of
    front_is m h = rw (lt-ltb m mailboxes h)

    holding_is : (m : ℕ) → m < mailboxes → is_holding (map num k.mail.boxes.next) m ≡ someone (box m)
    holding_is m h = ap (λ (x : ℕ). ltb x buffers) (sym (front_is m h)) ∙ front_holds m (box m) refl

  abbrev All : List ℕ → Type 0
  All at = AllFit at k.procs.running.0 k.mail.full.0 (map num k.mail.boxes.next) k.count

  module _ {at : List ℕ} {r : State.Procs} (P : Seats.Placed slice (Stands.numbers k.procs) r) (A : Stand r.queue at) where
    runs : (s : State.Procs) → Stands.Stands (Stands.numbers k.procs) s → k.procs.running.0 ≡ s.running
    unfolding Stands.numbers
    runs s S = S.running

    full_is : {box : ℕ → List Message} {hand : ℕ → Option Message} → Carries.Carries (Carries.numbers k.mail) box hand → k.mail.full.0 ≡ (Carries.numbers k.mail).full
    unfolding Carries.numbers
    full_is C = refl

    all : IsSound k → All at
    all (s, H, S) =
        let is = full_is H.mail ∙ H.mail.full in
        let stands : Stand s.procs.queue at = subst (λ (f : ℕ → List ℕ). Stand f at) (one-reading P.keeps.stands.queues H.procs.stands.queues) A in
        record {
          null = empty_bit s at k.mail.full.0 (is_holding (map num k.mail.boxes.next)) is (holding_is H.mail) stands 0 (omega arith) S.hands.null;
          others = λ p h h'. rw (runs s.procs H.procs.stands, fun_ext H.counts.each)
              (fits s at k.mail.full.0 (is_holding (map num k.mail.boxes.next)) is (holding_is H.mail) stands S p h h');
        }

    sound : {box : ℕ → List Message} {hand : ℕ → Option Message} → Wide → Set (settings_of k) → Births (count_in k.births) → length k.births ≡ processes → Stock.Stocked (Carries.numbers k.mail) capacity box hand → length k.count ≡ semaphores → ((i : ℕ) → get_or k.count i 0 ≤ 65535) → All at → IsSound k
    sound {box} {hand} W X Y wide Q long low F =
        let s : State = record { procs = r; box = box; hand = hand; count = λ i. get_or k.count i 0; births = count_in k.births; settings = settings_of k } in (
          s,
          record { procs = P.keeps; mail = Q.carries; counts = record { long = long; each = λ i. refl }; births = record { long = wide; each = λ p. refl }; settings = record { is = refl; capacities = W.0; modes = W.1 } },
          whole s at k.mail.full.0 (is_holding (map num k.mail.boxes.next)) (full_is Q.carries ∙ Q.carries.full) (holding_is Q.carries) A X Y P.seated P.highest Q.mail
              Q.carries.no_more_hands (λ i. omega (arith, low i, top)) (λ i h. get_or-eq_default k.count 0 (omega arith)) F.null
              (λ p h h'. rw (sym (runs r P.keeps.stands)) (F.others p h h')),
        )

  pub decided : Wide → Set (settings_of k) → Births (count_in k.births) → length k.births ≡ processes → length k.count ≡ semaphores → ((i : ℕ) → get_or k.count i 0 ≤ 65535) → (at : List ℕ) → Seats.Decision slice (Stands.numbers k.procs) (Some at)
      → Stock.Decision (Carries.numbers k.mail) capacity true → (b : Bool) → Decides b (All at) → Decides b (IsSound k)
  decided W X Y wide long low at (r, P, A) (box, hand, Q) true f = sound P A W X Y wide Q long low f
  decided W X Y wide long low at (r, P, A) (box, hand, Q) false f = λ s. f (all P A s)
