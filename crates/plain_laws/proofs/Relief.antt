-- What a send finds once a full mailbox that drops has lost its oldest message, and which capacities and modes may be set.
-- Assumes nothing.
use Prim.Native.Nat.{ℕ, ◌+◌, ◌≤◌, ◌<◌}
use mathlib.Core.Path.{◌≡◌, refl, ap, ◌∙◌}
use mathlib.Core.Bool.{Bool, true, false, not, ◌&&◌, ◌||◌, true≢false}
use mathlib.Core.Logic.{◌≢◌, ◌⊎◌, ⊎_elim}
use mathlib.Core.List.{List, [], ◌∷◌}
use native.Mathlib.Omega.{arith}
use lib.ListN.{length, drop}
use lib.Dec.{ltb, eqb}
use borrow.Author.Tests.{eqb-false, ltb-false, leb-true}
use Rattle.lists.specs.Lists.{someone}
use Rattle.std.proofs.lemmas.Bool.{cases_Bool, or_parts, and_parts}
use Rattle.lists.proofs.Laws.{nobody, put_same, put_other, put_cases}
use Rattle.plain.specs.Sizes.{mailboxes, at_mailbox}
use Rattle.plain.specs.State.{Message, Settings, State, usual, fill}
use Rattle.plain.specs.Mailboxes.{most_queued, allotted, no_size, busy, is_full, drops, refuses, overflows, relieved, Habits}
use Rattle.plain_laws.specs.History.{as_one}

-- ---- the oldest message of a mailbox that overflows is gone

pub relieved_cases : (m : ℕ) (s : State) (P : State → Type 0) → (overflows m s ≡ false → P s) → (overflows m s ≡ true → P (fill m (drop 1 (s.box m)) s)) → P (relieved m s)
unfolding relieved
relieved_cases m s P f g = ⊎_elim (λ (e : overflows m s ≡ true). rw e (g e)) (λ (e : overflows m s ≡ false). rw e (f e)) (cases_Bool (overflows m s))

pub relieved_other : (m : ℕ) (s : State) (i : ℕ) → i ≢ m → (relieved m s).box i ≡ s.box i
relieved_other m s i d = relieved_cases m s (λ t. t.box i ≡ s.box i) (λ e. refl) (λ e. put_other s.box m (drop 1 (s.box m)) i d)

one_less : (l : List Message) → length (drop 1 l) + as_one (someone l) ≡ length l
one_less [] = refl
one_less (x ∷ l) = omega arith

pub relieved-length : (m : ℕ) (s : State) → length ((relieved m s).box m) + as_one (overflows m s && someone (s.box m)) ≡ length (s.box m)
relieved-length m s = relieved_cases m s (λ t. length (t.box m) + as_one (overflows m s && someone (s.box m)) ≡ length (s.box m))
    (λ e. rw e (omega arith))
    (λ e. rw e (ap (λ (l : List Message). length l + as_one (someone (s.box m))) (put_same s.box m (drop 1 (s.box m))) ∙ one_less (s.box m)))

-- ---- whether a mailbox is full, refuses or drops

pub overflow_full : (m : ℕ) (s : State) → overflows m s ≡ true → s.settings.capacity m ≤ length (s.box m)
unfolding overflows
overflow_full m s e = leb-true (s.settings.capacity m) (length (s.box m)) (and_parts (is_full m s) (drops m s) e).0

-- a mailbox that overflows has a first message if it takes one at least
pub relieved_by : (m : ℕ) (s : State) (P : State → Type 0) → 1 ≤ s.settings.capacity m → (overflows m s ≡ false → P s)
    → ((x : Message) (l : List Message) → s.box m ≡ x ∷ l → overflows m s ≡ true → P (fill m l s)) → P (relieved m s)
relieved_by m s P some f g = relieved_cases m s P f (λ o. go (s.box m) refl o)
  where
    go : (l : List Message) → s.box m ≡ l → overflows m s ≡ true → P (fill m (drop 1 l) s)
    go [] e o = absurd (omega (arith, overflow_full m s o, ap length e))
    go (x ∷ l) e o = g x l e o

-- one that neither refuses nor overflows is not full
pub not_full : (m : ℕ) (s : State) → refuses m s ≡ false → overflows m s ≡ false → is_full m s ≡ false
unfolding refuses overflows
not_full m s e = go (is_full m s) (drops m s) e
  where
    go : (a b : Bool) → (a && not b) ≡ false → (a && b) ≡ false → a ≡ false
    go true true u v = v
    go true false u v = u
    go false b u v = refl

pub no_overflow : (m : ℕ) (s : State) → (is_full m s ≡ false) ⊎ (drops m s ≡ false) → overflows m s ≡ false
unfolding overflows
no_overflow m s = go (is_full m s) (drops m s)
  where
    go : (a b : Bool) → (a ≡ false) ⊎ (b ≡ false) → (a && b) ≡ false
    go true b h = ⊎_elim (λ e. absurd (true≢false e)) (λ e. e) h
    go false b h = refl

-- ---- capacities and modes

pub size_passed : (c d : ℕ) → no_size c d ≡ false → (1 ≤ c) × (c ≤ most_queued) × (d ≤ 1)
unfolding no_size
size_passed c d e =
    let a = or_parts (eqb c 0 || ltb most_queued c) (ltb 1 d) e in
    let b = or_parts (eqb c 0) (ltb most_queued c) a.0 in
    let z = eqb-false c 0 b.0 in
    (omega arith, ltb-false most_queued c b.1, ltb-false 1 d a.1)

pub idle-box : (m : ℕ) (s : State) → busy m s ≡ false → (s.box m ≡ []) × (s.procs.queue (at_mailbox m) ≡ [])
unfolding busy
idle-box m s e =
    let a = or_parts (someone (s.box m)) (someone (s.procs.queue (at_mailbox m))) e in
    (nobody (s.box m) a.0, nobody (s.procs.queue (at_mailbox m)) a.1)

pub usual-habits : Habits usual.capacity usual.mode
unfolding most_queued
usual-habits = record { some = λ m. omega arith; most = λ m. omega arith; modes = λ m. omega arith; no_more = λ m h. (refl, refl) }

pub habits-allotted : (x : Settings) → Habits x.capacity x.mode → (m c d : ℕ) → m < mailboxes → no_size c d ≡ false → Habits (allotted m c d x).capacity (allotted m c d x).mode
habits-allotted x k m c d h e =
    let z = size_passed c d e in
    record {
      some = λ i. put_cases (λ (a : ℕ). 1 ≤ a) x.capacity m c i (λ y. z.0) (λ y. k.some i);
      most = λ i. put_cases (λ (a : ℕ). a ≤ most_queued) x.capacity m c i (λ y. z.1) (λ y. k.most i);
      modes = λ i. put_cases (λ (a : ℕ). a ≤ 1) x.mode m d i (λ y. z.2) (λ y. k.modes i);
      no_more = λ i b. (put_other x.capacity m c i (omega arith) ∙ (k.no_more i b).0, put_other x.mode m d i (omega arith) ∙ (k.no_more i b).1);
    }
