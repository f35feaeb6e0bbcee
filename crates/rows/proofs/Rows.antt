-- The row in a struct's numbers is the plain kernel's row of the state that the struct holds.
-- Assumes nothing.
use Prim.Native.Nat.{ℕ, ◌+◌, ◌-◌, ◌<◌}
use mathlib.Core.Bool.{Bool, true, false, not}
use mathlib.Core.Logic.{◌≢◌, ⊎_elim}
use mathlib.Core.List.{List}
use mathlib.Core.Path.{◌≡◌, refl, ap, ◌∙◌}
use native.Mathlib.Omega.{arith}
use lib.Dec.{ltb, eqb}
use lib.ListN.{length, get_or, set, length-set}
use lib.Seq.{get_or-set_same, get_or-set_other}
use borrow.Author.Tests.{eq-eqb, ne_eqb, lt-ltb}
use Rattle.bits.specs.Word.{bit}
use Rattle.std.specs.Prelude.{Some, None, is_some, unwrap_or, if◌then◌else◌}
use Rattle.lists.specs.Lists.{ahead}
use Rattle.std.proofs.lemmas.Bool.{cases_eq}
use Rattle.rings.proofs.Laws.{placed, elsewhere}
use Rattle.plain.specs.Calls.{is_empty}
use Rattle.plain.specs.Listing as Plain
use Rattle.plain.specs.Listing.{queue_of}
use Rattle.plain.specs.Sizes.{processes, classes, mailboxes, queues}
use Rattle.plain_laws.proofs.Why.{queue_is, queue_none}
use Rattle.plain.specs.State.{State}
use Rattle.procs.specs.Moves.{class_at, ticks_at}
use Rattle.procs.specs.Stands as Stands
use Rattle.mail.specs.Carries as Carries
use Rattle.mail.specs.Moves.{has_message, hand_at, length_at, length_in_hand}
use Rattle.mail.proofs.Looks.{has_message_lem, length_in_hand_lem}
use Rattle.kernel.specs.Holds.{Holds}
use Rattle.kernel.specs.declared.Kernel.{Kernel}
use Rattle.rows.specs.Places.{spot, spot_from, spot_in, spot_of, Spots}
use Rattle.rows.specs.Row.{as_row, Each}
use Rattle.rows.specs.Rows.{null_row, held_by, row_with, row_of, row_in, Shows}
use Rattle.rows.specs.declared.Row.{Row}
use Rattle.rows.specs.declared.spots.Spot.{Spot}
use Rattle.rows.specs.declared.Table.{Table}
use Rattle.rows.proofs.Places.{spot_at, spot_in_lem, spot_none}

full_by : (m : Carries.Numbers) (p : ℕ) → bit (is_some (held_by m p)) ≡ bit (has_message m p)
unfolding held_by
full_by m p = go (has_message m p)
  where
    go : (full : Bool) → bit (is_some (if full then Some (length_in_hand m p) else None)) ≡ bit full
    go true = refl
    go false = refl

-- who has no message has one of no bytes
length_by : (m : Carries.Numbers) (p : ℕ) → unwrap_or (held_by m p) 0 ≡ length_in_hand m p
unfolding held_by length_in_hand
length_by m p = go (has_message m p)
  where
    go : (full : Bool) → unwrap_or (if full then Some (if full then length_at m (hand_at m p) else 0) else None) 0 ≡ (if full then length_at m (hand_at m p) else 0)
    go true = refl
    go false = refl

bit_full : (empty : Bool) → bit (not empty) ≡ (if empty then 0 else 1)
bit_full true = refl
bit_full false = refl

module _ {k : Kernel} {s : State} (H : Holds k s) (p : ℕ) where
  abbrev n : Stands.Numbers
  n = Stands.numbers k.procs

  -- the columns that do not depend on the place
  with_is : (x : Spot) → row_with x (class_at n p) (ticks_at n p) (held_by (Carries.numbers k.mail) p) ≡ as_row (Plain.row_as s p x.place x.which x.position)
  with_is x =
      let c = H.procs.stands.class p in
      let t = H.procs.stands.ticks p in
      let f = full_by (Carries.numbers k.mail) p ∙ ap bit (has_message_lem H.mail p) ∙ bit_full (is_empty (s.hand p)) in
      let l = length_by (Carries.numbers k.mail) p ∙ length_in_hand_lem H.mail p in
      λ i. record { place = x.place; which = x.which; position = x.position; class = c i; ticks = t i; full = f i; length = l i }

  -- in queue q, with so many ahead
  at_is : (q : ℕ) → q < queues → (let x : Spot = spot_at q (ahead p (s.procs.queue q)) in as_row (Plain.row_as s p x.place x.which x.position)) ≡ as_row (Plain.row_in s p q)
  at_is q h = rw (lt-ltb q queues h) (go (ltb q classes) (ltb q (classes + mailboxes)))
    where
      i : ℕ
      i = ahead p (s.procs.queue q)

      go : (a b : Bool)
          → (let x : Spot = (if a then spot 2 q i else (if b then spot 3 (q - classes) i else spot 4 (q - (classes + mailboxes)) i)) in
          as_row (Plain.row_as s p x.place x.which x.position))
          ≡ as_row (if a then Plain.row_as s p 2 q i
          else (if b then Plain.row_as s p 3 (q - classes) i
          else Plain.row_as s p 4 (q - (classes + mailboxes)) i))
      go true b = refl
      go false true = refl
      go false false = refl

  -- who does not run stands in a queue or nowhere
  resting : (let x : Spot = spot_in n.tables.next p in as_row (Plain.row_as s p x.place x.which x.position)) ≡ as_row (Plain.row_in s p (queue_of s p))
  resting =
      let R = H.procs.stands.queues in ⊎_elim
      (λ w. rw (spot_in_lem R p w.0 w.2, queue_is s p w.0 w.1 w.2 (λ j d. elsewhere R j w.0 p w.2 d)) (at_is w.0 w.1))
      (λ a. rw (queue_none s p a, spot_none R p a))
      (placed R p)

  -- who is not process 0
  not_null : row_of k p ≡ as_row (if eqb p s.procs.running then Plain.row_as s p 1 (s.procs.class p) 0 else Plain.row_in s p (queue_of s p))
  unfolding spot_of
  not_null = with_is (spot_of n p) ∙ ⊎_elim
      (λ (e : p ≡ s.procs.running). rw (H.procs.stands.running, eq-eqb p s.procs.running e, H.procs.stands.class p))
      (λ (d : p ≢ s.procs.running). rw (H.procs.stands.running, ne_eqb p s.procs.running d) resting)
      (cases_eq p s.procs.running)

module _ {k : Kernel} {s : State} (H : Holds k s) where
  runner : k.procs.running.0 ≡ s.procs.running
  unfolding Stands.numbers
  runner = H.procs.stands.running

  -- the row of each process
  pub row_is : (p : ℕ) → row_in k p ≡ as_row (Plain.row s p)
  unfolding row_in Plain.row
  row_is p = ⊎_elim
      (λ (e : p ≡ 0). rw (e, runner))
      (λ (d : p ≢ 0). rw (ne_eqb p 0 d) (not_null H p))
      (cases_eq p 0)

-- the rows of a struct's numbers are those of the plain state that it holds
pub shows : {k : Kernel} {t : Table} → Each (row_in k) t.rows → Shows k t
shows e = record { whole = e; plain = λ s H. record { long = e.long; at = λ i d h. e.at i d h ∙ row_is H i } }

-- rows made one after the other by the spots that were found, and then that of process 0
module _ (k : Kernel) (at : List ℕ) where
  abbrev pub row_by : ℕ → Row
  row_by p = row_with (spot_from (get_or at p 0)) (get_or k.procs.class p 0) (get_or k.procs.ticks p 0) (held_by (Carries.numbers k.mail) p)

  by_is : Spots (spot_of (Stands.numbers k.procs)) at → (p : ℕ) → p < processes → row_by p ≡ row_of k p
  unfolding Stands.numbers
  by_is found p h = ap (λ (x : Spot). row_with x (get_or k.procs.class p 0) (get_or k.procs.ticks p 0) (held_by (Carries.numbers k.mail) p)) (found p h)

  pub made : (l : List Row) {r : Row} → Spots (spot_of (Stands.numbers k.procs)) at → length l ≡ processes → ((p : ℕ) (d : Row) → p < processes → get_or l p d ≡ row_by p) → r ≡ null_row k.procs.running.0 → Each (row_in k) (set l 0 r)
  unfolding row_in
  made l {r} found long each null = record {
    long = length-set l 0 r ∙ long;
    at = λ p d h. ⊎_elim
        (λ (z : p ≡ 0). rw (z) (get_or-set_same l 0 r d (omega (arith, long)) ∙ null))
        (λ (m : p ≢ 0). rw (ne_eqb p 0 m) (get_or-set_other l 0 p r d m ∙ each p d h ∙ by_is found p h))
        (cases_eq p 0);
  }
