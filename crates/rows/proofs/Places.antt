-- Where a process stands by everyone's notes: in tables that hold queues, its queue and who is ahead of it there.
-- Assumes nothing.
use Prim.Native.Nat.{ℕ, zero, suc, ◌+◌, ◌-◌, ◌*◌, ◌/◌, ◌%◌, ◌≤◌, ◌<◌}
use mathlib.Core.Logic.{◌≢◌, ⊎_elim}
use mathlib.Core.List.{List, ◌∷◌}
use mathlib.Core.Path.{◌≡◌, refl, sym, ap, ◌∙◌}
use native.Mathlib.Numerals.{add-one}
use native.Mathlib.Omega.{arith}
use lib.Dec.{ltb}
use lib.ListN.{length, get_or, replicate, length-replicate, length-append}
use borrow.Author.Tests.{lt-ltb, le-ltb}
use Rattle.std.specs.Prelude.{if◌then◌else◌}
use Rattle.lists.specs.Lists.{occurs, ahead}
use Rattle.std.proofs.lemmas.Bool.{cases_eq}
use Rattle.lists.proofs.Laws.{le?, stands, ahead_split, zeros}
use Rattle.plain.specs.Sizes.{processes, classes, mailboxes, semaphores, queues}
use Rattle.rings.specs.Ring.{Tables, Absent, Rings}
use Rattle.rings.proofs.Laws.{once, elsewhere, in_range, at_most_all}
use Rattle.queues.specs.Lines.{line}
use Rattle.queues.specs.Noted.{one_ahead, noted}
use Rattle.queues.proofs.Lines.{line_is}
use Rattle.queues.proofs.Noted.{noted-length, noted_off, noted-on}
use Rattle.rows.specs.Places.{spot, coded, spot_from, swept, everyone, spot_in}
use Rattle.rows.specs.declared.spots.Spot.{Spot}

-- ---- a spot as one number

pub decoded : (place which position : ℕ) → place < 256 → which < 256 → position < processes → spot_from (coded place which position) ≡ spot place which position
unfolding spot_from
decoded place which position a b c =
    let p : coded place which position % 256 ≡ place = omega arith in
    let m : coded place which position / 256 ≡ which + 256 * position = omega arith in
    let w : coded place which position / 256 % 256 ≡ which = rw m (omega arith) in
    let o : coded place which position / one_ahead ≡ position = omega arith in
    let n : coded place which position / one_ahead % processes ≡ position = rw o (omega arith) in
    λ i. spot (p i) (w i) (n i)

pub position_low : (w : ℕ) → (spot_from w).position < processes
unfolding spot_from
position_low w = omega arith

-- ---- some queues

module _ (next : List ℕ) (place first : ℕ) where
  pub swept_none : (t : List ℕ) → swept next place first 0 t ≡ t
  unfolding swept
  swept_none t = refl

  pub swept-more : (count : ℕ) (t : List ℕ) → swept next place first (count + 1) t ≡ noted (swept next place first count t) (coded place count 0) (line next (first + count))
  unfolding swept
  swept-more count t = rw (add-one count)

  swept-length : (count : ℕ) (t : List ℕ) → length (swept next place first count t) ≡ length t
  unfolding swept
  swept-length zero t = refl
  swept-length (suc count) t = noted-length _ _ (line next (first + count)) ∙ swept-length count t

  -- who stands in none of them keeps his note
  swept_off : (count : ℕ) (t : List ℕ) (p : ℕ) → ((i : ℕ) → i < count → occurs p (line next (first + i)) ≡ 0) → get_or (swept next place first count t) p 0 ≡ get_or t p 0
  unfolding swept
  swept_off zero t p z = refl
  swept_off (suc count) t p z = noted_off _ _ (line next (first + count)) p (z count (omega arith)) ∙ swept_off count t p (λ i h. z i (omega arith))

  -- who stands in one of them, once, and in no other has its number
  swept-on : (count : ℕ) (t : List ℕ) (p i : ℕ) → p < length t → i < count → occurs p (line next (first + i)) ≡ 1 → ((j : ℕ) → j ≢ i → occurs p (line next (first + j)) ≡ 0)
      → get_or (swept next place first count t) p 0 ≡ coded place i (ahead p (line next (first + i)))
  unfolding swept
  swept-on zero t p i h l o z = absurd (omega arith)
  swept-on (suc count) t p i h l o z = ⊎_elim
      (λ (e : i ≡ count). rw (← e) (noted-on _ _ (line next (first + i)) p (rw (swept-length i t) h) o ∙ omega arith))
      (λ (d : i ≢ count). noted_off _ _ (line next (first + count)) p (z count (λ e. d (sym e))) ∙ swept-on count t p i h (omega arith) o z)
      (cases_eq i count)

-- ---- in tables that hold queues

-- in queue q with n ahead
abbrev pub spot_at : ℕ → ℕ → Spot
spot_at q n = if ltb q classes then spot 2 q n else (if ltb q (classes + mailboxes) then spot 3 (q - classes) n else spot 4 (q - (classes + mailboxes)) n)

module _ {t : Tables} {f : ℕ → List ℕ} (R : Rings processes queues t f) (p : ℕ) where
  -- queues in which p does not stand
  past : (place first count : ℕ) (u : List ℕ) → ((i : ℕ) → i < count → occurs p (f (first + i)) ≡ 0) → get_or (swept t.next place first count u) p 0 ≡ get_or u p 0
  past place first count u z = swept_off t.next place first count u p (λ i h. rw (line_is R (first + i)) (z i h))

  few : (q : ℕ) → 1 ≤ occurs p (f q) → ahead p (f q) < processes
  few q o =
      let s = stands p (f q) o in
      let e : ahead p (f q) ≡ length s.before = ap (ahead p) s.whole ∙ ahead_split p s.before s.behind s.first_there in
      omega (arith, e, at_most_all R q, ap length s.whole, length-append s.before (p ∷ s.behind))

  -- queues among which is that of p
  among : (place first count i : ℕ) (u : List ℕ) → place < 256 → count ≤ 256 → length u ≡ processes → i < count → 1 ≤ occurs p (f (first + i))
      → spot_from (get_or (swept t.next place first count u) p 0) ≡ spot place i (ahead p (f (first + i)))
  among place first count i u a b long h o =
      let e = line_is R (first + i) in
      let n : occurs p (line t.next (first + i)) ≡ 1 = rw e (omega (arith, o, once R (first + i) p)) in
      let v = swept-on t.next place first count u p i (omega (arith, long, R.members (first + i) p o)) h n (λ j d. rw (line_is R (first + j)) (elsewhere R (first + j) (first + i) p o (λ g. d (omega (arith, g))))) in
      ap spot_from (v ∙ ap (λ (l : List ℕ). coded place i (ahead p l)) e) ∙ decoded place i (ahead p (f (first + i))) a (omega arith) (few (first + i) o)

  -- one who stands in a queue
  pub spot_in_lem : (q : ℕ) → 1 ≤ occurs p (f q) → spot_in t.next p ≡ spot_at q (ahead p (f q))
  unfolding spot_in everyone
  spot_in_lem q o =
      let none : List ℕ = replicate processes 0 in
      let ready : List ℕ = swept t.next 2 0 classes none in
      let waiting : List ℕ = swept t.next 3 classes mailboxes ready in
      let long : length ready ≡ processes = swept-length t.next 2 0 classes none ∙ length-replicate {A = ℕ} processes 0 in
      let low = in_range R q p o in
      let other : (first count : ℕ) → q < first → (i : ℕ) → i < count → occurs p (f (first + i)) ≡ 0 = λ first count h i l. elsewhere R (first + i) q p o (λ e. omega (arith, h, e)) in
      ⊎_elim
      (λ (a : classes ≤ q). ⊎_elim
      (λ (b : classes + mailboxes ≤ q). let i : ℕ = q - (classes + mailboxes) in let e : classes + mailboxes + i ≡ q = omega arith in
      rw (le-ltb q classes a, le-ltb q (classes + mailboxes) b)
      (among 4 (classes + mailboxes) semaphores i waiting (omega arith) (omega arith) (swept-length t.next 3 classes mailboxes ready ∙ long) (omega arith) (rw e o) ∙ ap (λ (j : ℕ). spot 4 i (ahead p (f j))) e))
      (λ (b : q < classes + mailboxes). let i : ℕ = q - classes in let e : classes + i ≡ q = omega arith in
      rw (le-ltb q classes a, lt-ltb q (classes + mailboxes) b)
      (ap spot_from (past 4 (classes + mailboxes) semaphores waiting (other (classes + mailboxes) semaphores b)) ∙ among 3 classes mailboxes i ready (omega arith) (omega arith) long (omega arith) (rw e o) ∙ ap (λ (j : ℕ). spot 3 i (ahead p (f j))) e))
      (le? (classes + mailboxes) q))
      (λ (a : q < classes). let e : 0 + q ≡ q = omega arith in rw (lt-ltb q classes a)
      (ap spot_from (past 4 (classes + mailboxes) semaphores waiting (other (classes + mailboxes) semaphores (omega arith)) ∙ past 3 classes mailboxes ready (other classes mailboxes a)) ∙ among 2 0 classes q none (omega arith) (omega arith) (length-replicate {A = ℕ} processes 0) a (rw e o) ∙ ap (λ (j : ℕ). spot 2 q (ahead p (f j))) e))
      (le? classes q)

  -- one who stands in none
  pub spot_none : Absent p f → spot_in t.next p ≡ spot 0 0 0
  unfolding spot_in everyone spot_from
  spot_none a = rw (past 4 (classes + mailboxes) semaphores _ (λ i h. a _), past 3 classes mailboxes _ (λ i h. a _), past 2 0 classes _ (λ i h. a _), zeros processes p)
