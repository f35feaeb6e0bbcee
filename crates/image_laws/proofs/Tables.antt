-- Tables of links for any queues in which nobody stands twice: from fresh tables, queue by queue, each member joins the rear.
-- For any number n of members and any number m of queues. Assumes nothing.
use Prim.Native.Nat.{ℕ, zero, suc, ◌+◌, ◌≤◌, ◌<◌}
use mathlib.Core.Path.{◌≡◌, refl, sym, ap, ◌∙◌, subst, fun_ext}
use mathlib.Core.Logic.{◌≢◌, ⊎_elim}
use mathlib.Core.List.{List, [], ◌∷◌, ◌++◌, append_assoc, append-nil}
use native.Mathlib.Omega.{arith}
use Rattle.lists.specs.Lists.{put, occurs, total}
use Rattle.std.proofs.lemmas.Bool.{cases_eq}
use Rattle.lists.proofs.Laws.{le?, put_same, put_other, put_cases, one_same, occurs-append, total-le, total-at, total_two}
use Rattle.rings.specs.Ring.{Tables, Absent, Rings}
use Rattle.rings.specs.Moves.{fresh}
use Rattle.rings.proofs.Looks.{fresh_rings}
use Rattle.rings.proofs.Moves.{rear}

-- queues that tables can hold: there are m, their members are below n, and nobody stands in two places
pub record Orderly (n m : ℕ) (f : ℕ → List ℕ) : Type 0 where
  pub beyond : (q : ℕ) → m ≤ q → f q ≡ []
  pub members : (q p : ℕ) → 1 ≤ occurs p (f q) → p < n
  pub once : (p : ℕ) → total m (λ q. occurs p (f q)) ≤ 1

-- they stay so as one is emptied
emptied : {n m : ℕ} {f : ℕ → List ℕ} (k : ℕ) → Orderly n m f → Orderly n m (put f k [])
emptied {n} {m} {f} k o = record {
  beyond = λ q h. put_cases (λ (l : List ℕ). l ≡ []) f k [] q (λ e. refl) (λ d. o.beyond q h);
  members = λ q p. put_cases (λ (l : List ℕ). 1 ≤ occurs p l → p < n) f k [] q (λ e z. absurd (omega arith)) (λ d. o.members q p);
  once = λ p.
      let fewer = total-le m (λ q. occurs p (put f k [] q)) (λ q. occurs p (f q))
      (λ q. put_cases (λ (l : List ℕ). occurs p l ≤ occurs p (f q)) f k [] q (λ e. omega arith) (λ d. omega arith)) in
      omega (arith, fewer, o.once p);
}

-- queue q is f's but for its last members l, who are still to join, and every other queue is f's
module _ {n m : ℕ} {f : ℕ → List ℕ} (o : Orderly n m f) (q : ℕ) (hq : q < m) where
  absent : (p : ℕ) (l : List ℕ) (g : ℕ → List ℕ) → f q ≡ g q ++ p ∷ l → ((i : ℕ) → i ≢ q → f i ≡ g i) → Absent p g
  absent p l g e same i =
      let here : occurs p (f q) ≡ occurs p (g q) + occurs p (p ∷ l) = ap (occurs p) e ∙ occurs-append p (g q) (p ∷ l) in
      ⊎_elim
      (λ (d : i ≡ q). rw d (omega (arith, here, one_same p, total-at m (λ j. occurs p (f j)) q hq, o.once p)))
      (λ (d : i ≢ q). ⊎_elim
      (λ h. ap (occurs p) (sym (same i d) ∙ o.beyond i h))
      (λ h. omega (arith, here, one_same p, ap (occurs p) (same i d), total_two m (λ j. occurs p (f j)) i q h hq d, o.once p))
      (le? m i))
      (cases_eq i q)

  joined : (l : List ℕ) (g : ℕ → List ℕ) {t : Tables} → Rings n m t g → f q ≡ g q ++ l → ((i : ℕ) → i ≢ q → f i ≡ g i)
      → (u : Tables) × Rings n m u f
  joined [] g {t} R e same =
      let all : g ≡ f = fun_ext (λ i. ⊎_elim (λ (d : i ≡ q). rw d (sym (e ∙ append-nil (g q)))) (λ (d : i ≢ q). sym (same i d)) (cases_eq i q)) in
      (t, subst (Rings n m t) all R)
  joined (p ∷ l) g {t} R e same =
      let longer : List ℕ = g q ++ (p ∷ []) in
      let stands : 1 ≤ occurs p (f q) = omega (arith, ap (occurs p) e, occurs-append p (g q) (p ∷ l), one_same p) in
      joined l (put g q longer)
      (rear R q p hq (o.members q p stands) (absent p l g e same))
      (e ∙ sym (append_assoc (g q) (p ∷ []) l) ∙ ap (λ (r : List ℕ). r ++ l) (sym (put_same g q longer)))
      (λ i d. same i d ∙ sym (put_other g q longer i d))

module _ {n m : ℕ} where
  -- queue k and those after it are empty
  built : (k : ℕ) (f : ℕ → List ℕ) → k ≤ m → Orderly n m f → ((q : ℕ) → k ≤ q → f q ≡ []) → (t : Tables) × Rings n m t f
  built zero f h o e =
      let none : ◌≡◌ {A = ℕ → List ℕ} (λ q. []) f = fun_ext (λ q. sym (e q (omega arith))) in
      (fresh n m, subst (Rings n m (fresh n m)) none (fresh_rings n m))
  built (suc k) f h o e =
      let less : (q : ℕ) → k ≤ q → put f k [] q ≡ [] = λ q b. put_cases (λ (l : List ℕ). l ≡ []) f k [] q (λ d. refl) (λ d. e q (omega arith)) in
      let r = built k (put f k []) (omega arith) (emptied k o) less in
      joined o k (omega arith) (f k) (put f k []) r.1 (ap (λ (l : List ℕ). l ++ f k) (sym (put_same f k []))) (λ i d. sym (put_other f k [] i d))

  pub tables : (f : ℕ → List ℕ) → Orderly n m f → (t : Tables) × Rings n m t f
  tables f o = built m f (omega arith) o o.beyond
