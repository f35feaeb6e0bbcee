-- What is decided by asking each number of a range: by a fold, which has no early exit, and by `all`, which has one.
-- Assumes nothing.
use Prim.Native.Nat.{ℕ, zero, suc, ◌+◌, ◌-◌, ◌≤◌, ◌<◌}
use mathlib.Core.Path.{◌≡◌, refl, sym, ◌∙◌, subst}
use mathlib.Core.Bool.{Bool, true, false, true≢false}
use mathlib.Core.List.{List, map-id}
use lib.ListN.{length, get_or}
use native.Mathlib.Omega.{arith}
use denote.Param.Members.{Mut}
use Rattle.std.specs.declared.ops.Range.{Range}
use Rattle.std.specs.Fn.{Called}
use Rattle.std.specs.Bool.{MatchBool}
use Rattle.std.specs.Iterator.{FoldsItems, ChecksAll}
use Rattle.std.specs.List.{FoldsTo, AllWithin, HoldsAt, range_with_len}
use Rattle.std.proofs.lemmas.Iterator.{YieldsList-from_range, cases_from_all}
use Rattle.std.proofs.lemmas.List.FromFn.{length-range_with_len, get_or-range_with_len}
use Rattle.std.proofs.iter.Yields.{nat_range_steps, gives_Drains, Range-gives}
use Rattle.rings.specs.Decides.{Decides}
use Rattle.rings.proofs.Decisions.{decides_more}

-- a turn of f gives `all & t`: a yes is a yes to i and to all before it, and a no after only yeses is a no to i
module _ {F : Type 0} (g : Mut F (Bool × (ℕ × Unit {0})) Bool) (P : ℕ → Type 0) (n : ℕ) (f : F)
    (stays : (i : ℕ) (a b : Bool) (h : F) → Called g f (a, (i, tt)) b h → h ≡ f)
    (says : (i : ℕ) (a : Bool) (h : F) → i < n → Called g f (a, (i, tt)) true h → (a ≡ true) × P i)
    (denies : (i : ℕ) (h : F) → i < n → Called g f (true, (i, tt)) false h → P i → ⊥) where
  turn : (k : ℕ) (a b : Bool) (h : F) → k < n → Decides a ((i : ℕ) → i < k → P i) → Called g f (a, (k, tt)) b h → Decides b ((i : ℕ) → i < k + 1 → P i)
  turn k true true h o d c = decides_more P k true true d (says k true h o c).1
  turn k false true h o d c = absurd (true≢false (sym (says k false h o c).0))
  turn k true false h o d c = decides_more P k true false d (denies k h o c)
  turn k false false h o d c = λ all. d (λ i j. all i (omega arith))

  turns : (m k : ℕ) (h : F) (a : Bool) (q : F × Bool) → h ≡ f → k + m ≡ n → Decides a ((i : ℕ) → i < k → P i)
      → FoldsTo {P = F × Bool} (λ p x q. Called g p.0 (p.1, (x, tt)) q.1 q.0) (h, a) (range_with_len k m) q → Decides q.1 ((i : ℕ) → i < n → P i)
  turns zero k h a q e s d t =
      let z : k ≡ n = omega arith in
      subst (λ (p : F × Bool). Decides p.1 ((i : ℕ) → i < n → P i)) t (subst (λ (x : ℕ). Decides a ((i : ℕ) → i < x → P i)) z d)
  turns (suc m) k h a q e s d t =
      let c = subst (λ (y : F). Called g y (a, (k, tt)) t.0.1 t.0.0) e t.1 in
      turns m (k + 1) t.0.0 t.0.1 q (stays k a t.0.1 t.0.0 c) (omega arith) (turn k a t.0.1 t.0.0 (omega arith) d c) t.2

pub decides_fold : (P : ℕ → Type 0) {F : Type 0} {g : Mut F (Bool × (ℕ × Unit {0})) Bool} {n : ℕ} {f : F} {r : Bool} → FoldsItems nat_range_steps g (record { start = 0; end = n }) f true r
    → ((i : ℕ) (a b : Bool) (h : F) → Called g f (a, (i, tt)) b h → h ≡ f)
    → ((i : ℕ) (a : Bool) (h : F) → i < n → Called g f (a, (i, tt)) true h → (a ≡ true) × P i)
    → ((i : ℕ) (h : F) → i < n → Called g f (true, (i, tt)) false h → P i → ⊥)
    → Decides r ((i : ℕ) → i < n → P i)
decides_fold P {F} {g} {n} {f} {r} ran stays says denies =
    let s : Range ℕ = record { start = 0; end = n } in
    let e : ran.0 ≡ range_with_len 0 (n - 0) = sym (map-id ran.0) ∙ gives_Drains nat_range_steps (λ x. x) ran.0 _ s (Range-gives s) ran.2 in
    turns g P n f stays says denies (n - 0) 0 f true (ran.1, r) refl (omega arith) (λ i o. absurd (omega arith))
    (subst (λ (l : List ℕ). FoldsTo {P = F × Bool} (λ p x q. Called g p.0 (p.1, (x, tt)) q.1 q.0) (f, true) l (ran.1, r)) e ran.3)

-- f answers true for each number that has P, and false for each that has not
pub decides_all : (P : ℕ → Type 0) {F : Type 0} {g : Mut F (ℕ × Unit {0}) Bool} {a n : ℕ} {f : F} {r : Bool} {u : Range ℕ} → ChecksAll nat_range_steps g (record { start = a; end = n }) f r u
    → ((i : ℕ) (b : Bool) (h : F) → Called g f (i, tt) b h → h ≡ f)
    → ((i : ℕ) (h : F) → i < n → Called g f (i, tt) true h → P i)
    → ((i : ℕ) (h : F) → i < n → Called g f (i, tt) false h → P i → ⊥)
    → Decides r ((i : ℕ) → a ≤ i → i < n → P i)
decides_all P {F} {g} {a} {n} {f} {r} {u} ran stays says denies =
    by r (cases_from_all u f r Yes No ran (YieldsList-from_range a n (n - a) refl refl) (λ i h c. (stays i true h c, (h, c))) (λ i h c. (h, c)))
  where
    Yes : ℕ → Type 0
    Yes i = (h : F) × Called g f (i, tt) true h

    No : ℕ → Type 0
    No i = (h : F) × Called g f (i, tt) false h

    all : List ℕ
    all = range_with_len a (n - a)

    long : length all ≡ n - a
    long = length-range_with_len a (n - a)

    by : (b : Bool) → MatchBool b (AllWithin Yes all 0 (length all)) ((k : ℕ) × (k < length all) × HoldsAt No all k) → Decides b ((i : ℕ) → a ≤ i → i < n → P i)
    by true y = λ i low high.
        let e : get_or all (i - a) 0 ≡ i = omega (arith, get_or-range_with_len a (n - a) (i - a) 0 (omega arith)) in
        let c = subst Yes e (y (i - a) 0 (omega arith) (omega (arith, long))) in
        says i c.0 high c.1
    by false w = λ p.
        let e = get_or-range_with_len a (n - a) w.0 0 (omega (arith, long, w.1)) in
        let c = subst No e (w.2 0) in
        denies (a + w.0) c.0 (omega (arith, long, w.1)) c.1 (p (a + w.0) (omega arith) (omega (arith, long, w.1)))
