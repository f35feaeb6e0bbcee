-- Every entry of tables that hold queues is a node.
-- For any number n of members and any number m of queues. Assumes nothing.
use Prim.Native.Nat.{ℕ, ◌+◌, ◌-◌, ◌≤◌, ◌<◌}
use mathlib.Core.Path.{◌≡◌, ap, subst}
use mathlib.Core.Logic.{⊎_elim}
use mathlib.Core.List.{List, [], ◌∷◌, ◌++◌}
use native.Mathlib.Omega.{arith}
use Rattle.lists.specs.Lists.{one, occurs}
use Rattle.std.proofs.lemmas.Bool.{cases_eq}
use Rattle.lists.proofs.Laws.{le?, one_same, one_other, occurs_rear}
use Rattle.rings.specs.Ring.{Tables, next_at, prev_at, Chain, done, step, Rings}
use Rattle.rings.proofs.Chains.{Below, below_first, below_rest}
use Rattle.rings.proofs.Laws.{placed, ring_below}

-- along a way whose nodes are below k
module _ {k : ℕ} {t : Tables} where
  next_below : (l : List ℕ) {a : ℕ} (h : ℕ) → Chain t a (l ++ h ∷ []) → Below k (l ++ h ∷ []) → (x : ℕ) → 1 ≤ occurs x (a ∷ l) → next_at t x < k
  next_below [] {a} h (step e c) b x o = ⊎_elim
      (λ z. omega (arith, ap (next_at t) z, e.to, below_first h [] b))
      (λ z. absurd (omega (arith, one_other a x z)))
      (cases_eq a x)
  next_below (y ∷ l) {a} h (step e c) b x o = ⊎_elim
      (λ z. omega (arith, ap (next_at t) z, e.to, below_first y (l ++ h ∷ []) b))
      (λ z. next_below l h c (below_rest y (l ++ h ∷ []) b) x (omega (arith, one_other a x z)))
      (cases_eq a x)

  prev_below : {a : ℕ} {l : List ℕ} → Chain t a l → a < k → Below k l → (x : ℕ) → 1 ≤ occurs x l → prev_at t x < k
  prev_below done h b x o = absurd (omega arith)
  prev_below (step {x = y} {l = l} e c) h b x o = ⊎_elim
      (λ z. omega (arith, ap (prev_at t) z, e.back))
      (λ z. prev_below c (below_first y l b) (below_rest y l b) x (omega (arith, one_other y x z)))
      (cases_eq y x)

module _ {n m : ℕ} {t : Tables} {f : ℕ → List ℕ} (R : Rings n m t f) where
  abbrev pub Inside : ℕ → Type 0
  Inside i = (next_at t i < n + m) × (prev_at t i < n + m)

  ring_inside : (q x : ℕ) → q < m → 1 ≤ occurs x (f q) + one (n + q) x → Inside x
  ring_inside q x h o = (
    next_below (f q) (n + q) (R.ring q h) (ring_below R q h) x (omega arith),
    prev_below (R.ring q h) (omega arith) (ring_below R q h) x (omega (arith, occurs_rear x (n + q) (f q))),
  )

  pub inside : (i : ℕ) → i < n + m → Inside i
  inside i h = ⊎_elim
      (λ (g : n ≤ i). let e : i ≡ n + (i - n) = omega arith in ring_inside (i - n) i (omega arith) (omega (arith, subst (λ (x : ℕ). one x i ≡ 1) e (one_same i))))
      (λ (g : i < n). ⊎_elim
      (λ r. ring_inside r.0 i r.1 (omega (arith, r.2)))
      (λ a. let e = R.alone i g a in (omega (arith, e.to), omega (arith, e.back)))
      (placed R i))
      (le? n i)
