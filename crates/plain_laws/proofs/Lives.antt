-- What becomes of a name: births and stops counted over a history, and what is refused by then.
-- Assumes nothing.
use Prim.Native.Nat.{ℕ, ◌+◌, ◌-◌, ◌%◌, ◌≤◌, ◌<◌}
use mathlib.Core.Path.{◌≡◌, refl, sym, ap, ◌∙◌, subst}
use mathlib.Core.Bool.{Bool, true, false, not, ◌&&◌, ◌||◌}
use mathlib.Core.Logic.{◌≢◌, ◌⊎◌, inl, inr, ⊎_elim}
use mathlib.Core.List.{List, [], ◌∷◌}
use native.Mathlib.Omega.{arith}
use borrow.Author.Tests.{eqb-true, eq-eqb, ne_eqb}
use Rattle.std.specs.Prelude.{if◌then◌else◌}
use Rattle.std.proofs.lemmas.Bool.{cases_Bool, cases_eq}
use Rattle.lists.proofs.Laws.{le?, one_same}
use Rattle.plain.specs.Sizes.{processes}
use Rattle.plain.specs.State.{Procs, State, places, unused, free_process}
use Rattle.plain.specs.Names.{rounds, name, bare, names}
use Rattle.plain.specs.Calls.{Call, create, stop, Outcome, done, perform, refusals, step, after}
use Rattle.plain.specs.Sound.{Used, Sound}
use Rattle.plain.specs.Why as Why
use Rattle.plain_laws.specs.History.{Passed, as_one, is_done, is_refusal, moments}
use Rattle.plain_laws.specs.Names.{born_in, stopped_in, Taken, unknown, Fate}
use Rattle.plain_laws.proofs.Names.{bare-name, named, is_named}
use Rattle.plain_laws.proofs.Calls.{accepted, next_process}
use Rattle.plain_laws.proofs.Frames.{slice_some, arrived}
use Rattle.plain_laws.proofs.Refusals.{accepted_passed}
use Rattle.plain_laws.proofs.Rear.{rejoins}
use Rattle.plain_laws.proofs.Sound.{step_sound, after_sound, step_tallies}
use Rattle.plain_laws.proofs.Why.{only}

-- ---- births and stops, counted

pub tallied : (s : State) → Sound s → (p : ℕ) → 1 ≤ p → (cs : List Call) → (after s cs).births p ≡ (s.births p + born_in p (moments s cs)) % rounds
unfolding after moments born_in
tallied s k p h [] = omega (arith, k.births.most p)
tallied s k p h (c ∷ cs) = omega (arith, step_tallies s k c p h, tallied (step s c).next (step_sound s k c) p h cs)

turn : (a b : Bool) → as_one (not a) + as_one (a && not b) ≡ as_one (not b) + as_one (not a && b)
turn true true = refl
turn true false = refl
turn false true = refl
turn false false = refl

-- who is used at last is used at first or born since, and not stopped since
balance : (p : ℕ) (s : State) (cs : List Call)
    → as_one (not (unused s.procs p)) + born_in p (moments s cs) ≡ as_one (not (unused (after s cs).procs p)) + stopped_in p (moments s cs)
unfolding after moments born_in stopped_in
balance p s [] = refl
balance p s (c ∷ cs) = omega (arith, turn (unused s.procs p) (unused (step s c).next.procs p), balance p (step s c).next cs)

in_use : (r : Procs) (p : ℕ) → 1 ≤ places r p → as_one (not (unused r p)) ≡ 1
in_use r p h = rw (ne_eqb (places r p) 0 (omega arith)) refl

used? : (r : Procs) (p : ℕ) → ((unused r p ≡ true) × (as_one (not (unused r p)) ≡ 0)) ⊎ ((unused r p ≡ false) × (as_one (not (unused r p)) ≡ 1) × (1 ≤ places r p))
used? r p = ⊎_elim
    (λ (e : places r p ≡ 0). let t = eq-eqb (places r p) 0 e in inl (t, rw t refl))
    (λ (d : places r p ≢ 0). let t = ne_eqb (places r p) 0 d in inr (t, rw t refl, omega arith))
    (cases_eq (places r p) 0)

-- ---- what the calls that take a process do with a name n of process p

module _ (s : State) (k : Sound s) (n p : ℕ) (h : 1 ≤ p) (h' : p < processes) (is : bare n ≡ p) where
  -- it is taken while p is used and has that count
  taken : names s.births n ≡ true → unused s.procs p ≡ false → 1 ≤ places s.procs p → Taken s n p
  unfolding step refusals perform Why.why
  taken e u o = record {
    used = o;
    stop = rw (is, ne_eqb p 0 (omega arith), e, u) refl;
    why = rw e refl;
    told = rw (e, is) refl;
  }

  -- an unused number is not stopped, and is told to be unused where the count is its last
  unused_stop : unused s.procs p ≡ true → step s (stop n) ≡ unknown s
  unfolding step refusals
  unused_stop u = rw (is, ne_eqb p 0 (omega arith), u) (go (names s.births n))
    where
      go : (t : Bool) → (if not t || true then unknown s else perform s (stop n)) ≡ unknown s
      go true = refl
      go false = refl

  unused-told : names s.births n ≡ true → places s.procs p ≡ 0 → (Why.why s n ≡ done 0 s) × (Why.told s n ≡ Why.unused)
  unfolding Why.why
  unused-told e z = rw (e, is) (refl, sym (only s k p Why.unused (omega arith, z)))

  -- another count is refused
  other_stop : names s.births n ≡ false → step s (stop n) ≡ unknown s
  unfolding step refusals
  other_stop e = rw (is, ne_eqb p 0 (omega arith), e) refl

  other_why : names s.births n ≡ false → Why.why s n ≡ unknown s
  unfolding Why.why
  other_why e = rw e refl

-- ---- from s on, where p is used and has the name n

moved_on : (b more : ℕ) → b < rounds → 1 ≤ more → more < rounds → (b + more) % rounds ≡ b → ⊥
moved_on b more low some few e = ⊎_elim (λ (h : rounds ≤ b + more). let f : (b + more) % rounds ≡ b + more - rounds = omega arith in omega arith) (λ (h : b + more < rounds). omega arith) (le? rounds (b + more))

module _ (s : State) (k : Sound s) (n p : ℕ) (h : 1 ≤ p) (h' : p < processes) (o : 1 ≤ places s.procs p) (e : n ≡ name s.births p) (cs : List Call) where
  abbrev t : State
  t = after s cs

  abbrev born : ℕ
  born = born_in p (moments s cs)

  abbrev stops : ℕ
  stops = stopped_in p (moments s cs)

  K : Sound t
  K = after_sound s cs k

  is : bare n ≡ p
  is = ap bare e ∙ bare-name s.births p h'

  count : t.births p ≡ (s.births p + born) % rounds
  count = tallied s k p h cs

  balanced : 1 + born ≡ as_one (not (unused t.procs p)) + stops
  balanced = omega (arith, balance p s cs, in_use s.procs p o)

  -- the count is that of n after no births, and after 256; else, up to then, another
  same_name : (t.births p ≡ s.births p) → names t.births n ≡ true
  unfolding name
  same_name c = is_named t.births n (omega (arith, is)) (rw is (omega (arith, e, c)))

  other_name : 1 ≤ born → born < rounds → names t.births n ≡ false
  unfolding name
  other_name some few = ⊎_elim
      (λ y. absurd (moved_on (s.births p) born (k.births.most p) some few (sym count ∙ omega (arith, e, subst (λ (x : ℕ). n ≡ name t.births x) is (named t.births n y).1))))
      (λ y. y)
      (cases_Bool (names t.births n))

  unstopped : stops ≡ 0 → Taken t n p
  unstopped z = ⊎_elim
      (λ u. absurd (omega (arith, balanced, u.1)))
      (λ u. taken t K n p h h' is (same_name (omega (arith, count, balanced, u.1, k.births.most p))) u.0 u.2)
      (used? t.procs p)

  stale : 1 ≤ stops → born < rounds → step t (stop n) ≡ unknown t
  stale some few = ⊎_elim
      (λ (z : born ≡ 0). ⊎_elim (λ u. unused_stop t K n p h h' is u.0) (λ u. absurd (omega (arith, balanced, u.1))) (used? t.procs p))
      (λ (z : born ≢ 0). other_stop t K n p h h' is (other_name (omega arith) few))
      (cases_eq born 0)

  last : 1 ≤ stops → born ≡ 0 → (Why.why t n ≡ done 0 t) × (Why.told t n ≡ Why.unused)
  last some z = ⊎_elim
      (λ u. unused-told t K n p h h' is (same_name (omega (arith, count, k.births.most p))) (eqb-true (places t.procs p) 0 u.0))
      (λ u. absurd (omega (arith, balanced, u.1)))
      (used? t.procs p)

  returns : born ≡ rounds → Used t.procs p → Taken t n p
  returns z u = taken t K n p h h' is (same_name (omega (arith, count, k.births.most p))) (ne_eqb (places t.procs p) 0 (omega arith)) u

-- ---- a name from the create that answers it

done_accepted : (o : Outcome) → is_done o ≡ true → is_refusal o.answer ≡ false
done_accepted o e = rw e refl

module _ (s : State) (k : Sound s) (c : ℕ) (e : is_done (step s (create c)) ≡ true) (later : List Call) where
  abbrev u : State
  u = (step s (create c)).next

  abbrev n : ℕ
  n = (step s (create c)).answer.number

  abbrev p : ℕ
  p = free_process s.procs

  passed : Passed (refusals s (create c))
  passed = accepted_passed s (create c) (done_accepted (step s (create c)) e)

  free : (1 ≤ p) × (p < processes) × (places s.procs p ≡ 0)
  unfolding refusals
  free = next_process s.procs passed.1.0

  does : step s (create c) ≡ perform s (create c)
  unfolding step
  does = accepted (refusals s (create c)) s (perform s (create c)) passed

  answered : n ≡ name u.births p
  unfolding perform
  answered = subst (λ (o : Outcome). o.answer.number ≡ name o.next.births p) (sym does) refl

  number : bare n ≡ p
  number = ap bare answered ∙ bare-name u.births p free.1

  there : 1 ≤ places u.procs p
  there =
      let v = rejoins s k (create c) p (done_accepted (step s (create c)) e) (omega (arith, one_same p)) in
      let a = arrived s.settings.slice p v.class s.procs u.procs (slice_some s k) k.seated v.below v.used v.inside v.settled in
      omega (arith, a.0)

  pub fate : Fate s n (bare n) (moments u later) (after u later)
  fate =
      let K : Sound u = step_sound s k (create c) in
      rw number (record {
        begun = (free.0, free.1, eq-eqb (places s.procs p) 0 free.2);
        lives = unstopped u K n p free.0 free.1 there answered later;
        stale = stale u K n p free.0 free.1 there answered later;
        unasked = λ some few. other_why (after u later) (after_sound u later K) n p free.0 free.1 number (other_name u K n p free.0 free.1 there answered later some few);
        last = last u K n p free.0 free.1 there answered later;
        returns = returns u K n p free.0 free.1 there answered later;
      })

-- ---- no two of one name

pub apart : (s : State) → Sound s → (p q : ℕ) → Used s.procs p → Used s.procs q → name s.births p ≡ name s.births q → p ≡ q
apart s k p q a b e =
    let low : (x : ℕ) → Used s.procs x → x < processes = λ x o. ⊎_elim (λ h. absurd (omega (arith, k.seated.nobody_else x h))) (λ h. h) (le? processes x) in
    sym (bare-name s.births p (low p a)) ∙ (ap bare e ∙ bare-name s.births q (low q b))
