-- Which refusal is given, and what holds of the codes of a call's own refusals.
-- Assumes nothing.
use Prim.Native.Nat.{ℕ}
use mathlib.Core.Path.{◌≡◌, refl, sym, ap, ◌∙◌, subst}
use lib.Dec.{eqb}
use borrow.Author.Tests.{eqb-true, ne_eqb}
use native.Mathlib.Omega.{arith}
use mathlib.Core.Bool.{Bool, true, false, not, ◌||◌, true≢false}
use mathlib.Core.Logic.{◌≢◌, ◌⊎◌, inl, inr, ⊎_elim}
use mathlib.Core.List.{List, [], ◌∷◌, ◌++◌}
use Rattle.std.specs.Prelude.{if◌then◌else◌}
use Rattle.std.proofs.lemmas.Bool.{cases_Bool}
use Rattle.plain.specs.State.{Settings, State}
use Rattle.plain.specs.Calls.{Call, create, stop, end, yield, class, tick, mailbox, send, receive, read, release, signal, wait, Refusal, Outcome, perform, refusals, refused, judge, step, after}
use Rattle.plain_laws.specs.History.{Kind, falls, posts, fetches, sets, other, Passed, First, codes, in_order, own, order, is_refusal, kind, is_tick, settings_by, as_one}
use Rattle.plain_laws.proofs.Calls.{judged, accepted}
use Rattle.plain_laws.proofs.Accepted.{accepts}

-- the first refusal of a list that holds is the one that is given
pub first-given : (xs : List Refusal) (r : Refusal) (ys : List Refusal) (s : State) (o : Outcome) → Passed xs → r.holds ≡ true → judge (xs ++ r ∷ ys) s o ≡ refused r s
first-given [] r ys s o p h = rw h
first-given (x ∷ xs) r ys s o p h = rw p.0 (first-given xs r ys s o p.1 h)

-- in a list of refusals one is the first that holds, or none holds
pub find : (rs : List Refusal) → ((r : Refusal) × First rs r) ⊎ Passed rs
find [] = inr tt
find (x ∷ rs) = ⊎_elim
    (λ (e : x.holds ≡ true). inl (x, record { before = []; behind = rs; whole = refl; passed = tt; holds = e }))
    (λ (e : x.holds ≡ false). ⊎_elim
    (λ (f : (r : Refusal) × First rs r). inl (
      f.0,
      record
          { before = x ∷ f.1.before; behind = f.1.behind; whole = ap (λ (l : List Refusal). x ∷ l) f.1.whole; passed = (e, f.1.passed); holds = f.1.holds },
    ))
    (λ p. inr (e, p)) (find rs))
    (cases_Bool x.holds)

pub given : (s : State) (c : Call) (r : Refusal) → First (refusals s c) r → step s c ≡ refused r s
unfolding step
given s c r f = rw f.whole (first-given f.before r f.behind s (perform s c) f.passed f.holds)

pub only : (s : State) (c : Call) → is_refusal (step s c).answer ≡ true → (r : Refusal) × First (refusals s c) r
unfolding step
only s c e = ⊎_elim (λ f. f)
    (λ (p : Passed (refusals s c)). absurd (true≢false (sym e ∙ (ap (λ (o : Outcome). is_refusal o.answer) (accepted (refusals s c) s (perform s c) p) ∙ (accepts s c).code))))
    (find (refusals s c))

pub unchanged : (s : State) (c : Call) → is_refusal (step s c).answer ≡ true → (step s c).next ≡ s
unchanged s c e = let f = only s c e in ap (λ (o : Outcome). o.next) (given s c f.0 f.1)

slice_by : (i : Kind) (x : Settings) → (settings_by i x).slice ≡ x.slice
slice_by falls x = refl
slice_by (posts m) x = refl
slice_by (fetches m) x = refl
slice_by (sets m c d) x = refl
slice_by other x = refl

pub slice_stays : (s : State) (c : Call) → (step s c).next.settings.slice ≡ s.settings.slice
unfolding step
slice_stays s c = judged (λ (t : State). t.settings.slice ≡ s.settings.slice) (refusals s c) s (perform s c) refl
    (λ p. ap (λ (x : Settings). x.slice) (accepts s c).settings ∙ slice_by (kind c) s.settings)

pub after-slice : (s : State) (cs : List Call) → (after s cs).settings.slice ≡ s.settings.slice
unfolding after
after-slice s [] = refl
after-slice s (c ∷ cs) = after-slice (step s c).next cs ∙ slice_stays s c

-- ---- the codes of a call's own refusals

-- all these numbers are so
abbrev pub Every : (ℕ → Type 0) → List ℕ → Type 0
Every P [] = Unit {0}
Every P (k ∷ ks) = P k × Every P ks

-- they stand in their order, and a tick has none
pub own-codes : (s : State) (c : Call) → (in_order (codes (refusals s c)) own ≡ true) × ((as_one (is_tick (kind c)) ≡ 0) ⊎ Passed (refusals s c))
unfolding refusals
own-codes s (create c) = (refl, inl refl)
own-codes s (stop p) = (refl, inl refl)
own-codes s end = (refl, inl refl)
own-codes s yield = (refl, inl refl)
own-codes s (class c) = (refl, inl refl)
own-codes s tick = (refl, inr tt)
own-codes s (mailbox m c d) = (refl, inl refl)
own-codes s (send m b) = (refl, inl refl)
own-codes s (receive m) = (refl, inl refl)
own-codes s (read room) = (refl, inl refl)
own-codes s release = (refl, inl refl)
own-codes s (signal k) = (refl, inl refl)
own-codes s (wait k) = (refl, inl refl)

among : (P : ℕ → Type 0) (ks os : List ℕ) → in_order ks os ≡ true → Every P os → Every P ks
among P [] os e h = tt
among P (k ∷ ks) [] e h = absurd (true≢false (sym e))
among P (k ∷ ks) (o ∷ os) e h = ⊎_elim
    (λ (t : eqb k o ≡ true). (subst P (sym (eqb-true k o t)) h.0, among P ks os (sym (rw t refl) ∙ e) h.1))
    (λ (t : eqb k o ≡ false). among P (k ∷ ks) os (sym (rw t refl) ∙ e) h.1)
    (cases_Bool (eqb k o))

-- what holds of each number of the plain kernel's own holds of each code of a call
pub each_code : (P : ℕ → Type 0) (s : State) (c : Call) → Every P own → Every P (codes (refusals s c))
each_code P s c = among P (codes (refusals s c)) own (own-codes s c).0

-- a number that is none of these may stand before the order
pub skip : (o : ℕ) (ks os : List ℕ) → Every (λ k. k ≢ o) ks → in_order ks os ≡ true → in_order ks (o ∷ os) ≡ true
skip o [] os d e = refl
skip o (k ∷ ks) os d e = rw (ne_eqb k o d.0) e

module _ (s : State) (c : Call) where
  abbrev ks : List ℕ
  ks = codes (refusals s c)

  -- and so they do behind the three that are judged before them, each of which may be left out
  pub behind_15 : in_order ks (15 ∷ own) ≡ true
  behind_15 = skip 15 ks own (each_code (λ k. k ≢ 15) s c (omega arith)) (own-codes s c).0

  pub behind_16 : in_order ks (16 ∷ 15 ∷ own) ≡ true
  behind_16 = skip 16 ks (15 ∷ own) (each_code (λ k. k ≢ 16) s c (omega arith)) behind_15

  pub in_order_lem : in_order ks order ≡ true
  in_order_lem = skip 14 ks (16 ∷ 15 ∷ own) (each_code (λ k. k ≢ 14) s c (omega arith)) behind_16

-- none has code 0, which is no refusal, and none 14, which is judged before them
abbrev pub Proper : List Refusal → Type 0
Proper rs = Every (λ k. (k ≢ 0) × (k ≢ 14)) (codes rs)

pub proper : (s : State) (c : Call) → Proper (refusals s c)
proper s c = each_code (λ k. (k ≢ 0) × (k ≢ 14)) s c (omega arith)

-- ---- a call's outcome by cases: refused, with a code that is not 0, or what the call does

abbrev pub NonZero : List Refusal → Type 0
NonZero rs = Every (λ k. eqb k 0 ≡ false) (codes rs)

pub nonzero : (s : State) (c : Call) → NonZero (refusals s c)
nonzero s c = each_code (λ k. eqb k 0 ≡ false) s c search

pub judge_cases : (P : Outcome → Type 0) (rs : List Refusal) (s : State) (o : Outcome) → NonZero rs → ((r : Refusal) → eqb r.code 0 ≡ false → P (refused r s)) → (Passed rs → P o) → P (judge rs s o)
judge_cases P [] s o z f g = g tt
judge_cases P (r ∷ rs) s o z f g = ⊎_elim (λ e. rw e (f r z.0)) (λ e. rw e (judge_cases P rs s o z.1 f (λ p. g (e, p)))) (cases_Bool r.holds)

-- ---- a call that is not refused has none of its refusals

-- a test that each of these numbers passes
abbrev passes : (ℕ → Bool) → List ℕ → Bool
passes t [] = true
passes t (k ∷ ks) = if t k then passes t ks else false

each-passes : (t : ℕ → Bool) (ks : List ℕ) → passes t ks ≡ true → Every (λ k. t k ≡ true) ks
each-passes t [] e = tt
each-passes t (k ∷ ks) e = ⊎_elim
    (λ (y : t k ≡ true). (y, each-passes t ks (sym (rw y refl) ∙ e)))
    (λ (n : t k ≡ false). absurd (true≢false (sym e ∙ rw n refl)))
    (cases_Bool (t k))

passed : (rs : List Refusal) (s : State) (o : Outcome) → Every (λ k. not (eqb k 0 || eqb k 32) ≡ true) (codes rs) → is_refusal (judge rs s o).answer ≡ false → Passed rs
passed [] s o z e = tt
passed (r ∷ rs) s o z e = ⊎_elim
    (λ (h : r.holds ≡ true). absurd (true≢false (sym z.0 ∙ (sym (rw h refl) ∙ e))))
    (λ (h : r.holds ≡ false). (h, passed rs s o z.1 (sym (rw h refl) ∙ e)))
    (cases_Bool r.holds)

pub accepted_passed : (s : State) (c : Call) → is_refusal (step s c).answer ≡ false → Passed (refusals s c)
unfolding step
accepted_passed s c e = passed (refusals s c) s (perform s c) (each_code (λ k. not (eqb k 0 || eqb k 32) ≡ true) s c (each-passes (λ k. not (eqb k 0 || eqb k 32)) own refl)) e

pub settings_after : (s : State) (c : Call) → is_refusal (step s c).answer ≡ false → (step s c).next.settings ≡ settings_by (kind c) s.settings
unfolding step
settings_after s c e = ap (λ (o : Outcome). o.next.settings) (accepted (refusals s c) s (perform s c) (accepted_passed s c e)) ∙ (accepts s c).settings
