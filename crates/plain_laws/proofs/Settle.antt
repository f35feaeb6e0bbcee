-- What choosing and settling come to: everyone stays seated, the highest runs, nobody gains or loses a place, waiters stand as they stood.
-- Assumes nothing.
use Prim.Native.Nat.{ℕ, zero, suc, ◌+◌, ◌≤◌, ◌<◌}
use mathlib.Core.Path.{◌≡◌, refl, sym, ap, ◌∙◌, subst, fun_ext}
use mathlib.Core.Logic.{◌≢◌, ◌⊎◌, inl, inr, ⊎_elim}
use mathlib.Core.List.{List, [], ◌∷◌}
use native.Mathlib.Omega.{arith}
use borrow.Author.Tests.{eq-eqb, ne_eqb}
use Rattle.lists.specs.Lists.{put, one, occurs}
use Rattle.std.proofs.lemmas.Bool.{cases_eq}
use Rattle.lists.proofs.Laws.{put_same, put_other, put_cases, one_other}
use Rattle.plain.specs.Sizes.{classes}
use Rattle.plain.specs.State.{Procs, level, places, run, lines, line}
use Rattle.plain.specs.Runs.{first, choose_below, choose, stand_down}
use Rattle.plain.specs.Sound.{Seated, Highest}
use Rattle.plain_laws.specs.Moves.{settle}
use Rattle.plain_laws.proofs.Places.{spots-run, spots-line}
use Rattle.plain_laws.proofs.Seats.{head_in, member}

-- ---- who is chosen

-- below class n: w, the first of class c, runs, and no class above c has anyone
pub record Picks (n : ℕ) (s s' : Procs) : Type 0 where
  pub c : ℕ
  pub w : ℕ
  pub l : List ℕ
  pub below : c < n
  pub stood : s.queue c ≡ w ∷ l
  pub higher : (d : ℕ) → d < n → c < d → s.queue d ≡ []
  pub result : s' ≡ run w (line c l s)

-- below class n nobody is ready, and 0 runs
pub record Rests (n : ℕ) (s s' : Procs) : Type 0 where
  pub nobody : (d : ℕ) → d < n → s.queue d ≡ []
  pub result : s' ≡ run 0 s

choice_below : (n : ℕ) (s : Procs) → Picks n s (choose_below n s) ⊎ Rests n s (choose_below n s)
unfolding choose_below
choice_below zero s = inr (record { nobody = λ d h. absurd (omega arith); result = refl })
choice_below (suc n) s = go (s.queue n) refl (choice_below n s)
  where
    go : (l : List ℕ) → s.queue n ≡ l → Picks n s (choose_below n s) ⊎ Rests n s (choose_below n s)
        → Picks (suc n) s (first n l s (choose_below n s)) ⊎ Rests (suc n) s (first n l s (choose_below n s))
    go [] e ih = ⊎_elim
        (λ (p : Picks n s (choose_below n s)). inl (record {
          c = p.c;
          w = p.w;
          l = p.l;
          below = omega (arith, p.below);
          stood = p.stood;
          higher = λ d h b. ⊎_elim (λ x. rw x e) (λ x. p.higher d (omega arith) b) (cases_eq d n);
          result = p.result;
        }))
        (λ (p : Rests n s (choose_below n s)). inr (record { nobody = λ d h. ⊎_elim (λ x. rw x e) (λ x. p.nobody d (omega arith)) (cases_eq d n); result = p.result }))
        ih
    go (w ∷ l) e ih = inl (record { c = n; w = w; l = l; below = omega arith; stood = e; higher = λ d h b. absurd (omega arith); result = refl })

pub choice : (s : Procs) → Picks classes s (choose s) ⊎ Rests classes s (choose s)
unfolding choose
choice s = choice_below classes s

module _ (s : Procs) where
  below_is : (n c w : ℕ) (l : List ℕ) → c < n → s.queue c ≡ w ∷ l → ((d : ℕ) → c < d → d < n → s.queue d ≡ []) → choose_below n s ≡ run w (line c l s)
  unfolding choose_below
  below_is zero c w l b e h = absurd (omega arith)
  below_is (suc n) c w l b e h = ⊎_elim
      (λ (d : c ≡ n). subst (λ (z : ℕ). first z (s.queue z) s (choose_below z s) ≡ run w (line c l s)) d (rw e refl))
      (λ (d : c ≢ n). rw (h n (omega arith) (omega arith)) (below_is n c w l (omega arith) e (λ j x y. h j x (omega arith))))
      (cases_eq c n)

  -- the first of class c is chosen where no class above c has anyone
  pub choose_is : (c w : ℕ) (l : List ℕ) → c < classes → s.queue c ≡ w ∷ l → ((d : ℕ) → c < d → d < classes → s.queue d ≡ []) → choose s ≡ run w (line c l s)
  unfolding choose
  choose_is c w l b e h = below_is classes c w l b e h

  below_none : (n : ℕ) → ((d : ℕ) → d < n → s.queue d ≡ []) → choose_below n s ≡ run 0 s
  unfolding choose_below
  below_none zero h = refl
  below_none (suc n) h = rw (h n (omega arith)) (below_none n (λ d b. h d (omega arith)))

  pub choose_none : ((d : ℕ) → d < classes → s.queue d ≡ []) → choose s ≡ run 0 s
  unfolding choose
  choose_none h = below_none classes h

-- ---- the runner stands down

pub down_idle : (s : Procs) → s.running ≡ 0 → stand_down s ≡ s
unfolding stand_down
down_idle s z = rw (eq-eqb s.running 0 z) refl

pub down_front : (s : Procs) → s.running ≢ 0 → stand_down s ≡ run 0 (line (level s s.running) (s.running ∷ s.queue (level s s.running)) s)
unfolding stand_down
down_front s d = rw (ne_eqb s.running 0 d) refl

-- ---- everyone stays seated

module _ (n : ℕ) (s : Procs) (k : Seated n s) where
  -- a class queue and the runner change so that everyone's places stay
  reseat : (r c : ℕ) (l : List ℕ) → c < classes → ((x : ℕ) → 1 ≤ x → one r x + occurs x l ≡ one s.running x + occurs x (s.queue c)) → occurs 0 l ≡ 0
      → ((x : ℕ) → 1 ≤ occurs x l → level s x ≡ c) → Seated n (run r (line c l s))
  reseat r c l hc e z lv =
      let same : (x : ℕ) → 1 ≤ x → places (run r (line c l s)) x ≡ places s x = λ x b.
      omega (arith, e x b, spots-run s.running r (put s.queue c l) x, spots-line s.running s.queue c l x (omega arith)) in
      record {
        one_place = λ x b. omega (arith, same x b, k.one_place x b);
        own_class = λ i x b. put_cases (λ (a : List ℕ). 1 ≤ occurs x a → level s x ≡ i) s.queue c l i (λ d o. lv x o ∙ sym d) (λ d. k.own_class i x b);
        null_nowhere = λ q. put_cases (λ (a : List ℕ). occurs 0 a ≡ 0) s.queue c l q (λ d. z) (λ d. k.null_nowhere q);
        nobody_else = λ x b. same x (omega arith) ∙ k.nobody_else x b;
        no_more_queues = λ i b. put_other s.queue c l i (omega arith) ∙ k.no_more_queues i b;
        in_class = k.in_class;
        ticks_left = λ x b o. k.ticks_left x b (omega (arith, same x b));
        ticks_most = k.ticks_most;
        waiter_ticks = λ i x b. put_cases (λ (a : List ℕ). 1 ≤ occurs x a → s.ticks x ≡ n) s.queue c l i (λ g o. absurd (omega arith)) (λ g. k.waiter_ticks i x b);
        null_zeros = k.null_zeros;
        unused_zeros = λ x g. ⊎_elim (λ o. rw o k.null_zeros) (λ o. k.unused_zeros x (omega (arith, same x (omega arith)))) (cases_eq x 0);
      }

  pub choose-seated : s.running ≡ 0 → Seated n (choose s)
  choose-seated z = ⊎_elim
      (λ (p : Picks classes s (choose s)). rw p.result (
      let was : (x : ℕ) → occurs x (s.queue p.c) ≡ one p.w x + occurs x p.l = λ x. ap (occurs x) p.stood in
      reseat p.w p.c p.l p.below (λ x b. omega (arith, was x, one_other s.running x (omega arith))) (omega (arith, was 0, k.null_nowhere p.c))
      (λ x o. k.own_class p.c x p.below (omega (arith, was x)))))
      (λ (p : Rests classes s (choose s)). rw p.result (subst (λ (r : ℕ). Seated n (run r s)) z k))
      (choice s)

  pub choose-highest : Highest (choose s)
  choose-highest = ⊎_elim
      (λ (p : Picks classes s (choose s)). rw p.result (λ d h above.
      let here = head_in n s k p.c p.w p.l p.stood in
      let pos = member n s k p.c p.w here in
      let class = k.own_class p.c p.w p.below here in
      let up : level s p.w < d = above (λ e. omega (arith, pos.0)) in
      put_other s.queue p.c p.l d (omega arith) ∙ p.higher d h (omega arith)))
      (λ (p : Rests classes s (choose s)). rw p.result (λ d h above. p.nobody d h))
      (choice s)

  pub down_seated : ((stand_down s).running ≡ 0) × Seated n (stand_down s)
  down_seated = ⊎_elim
      (λ (z : s.running ≡ 0). rw (down_idle s z) (z, k))
      (λ (d : s.running ≢ 0). rw (down_front s d) (
        refl,
        reseat 0 (level s s.running) (s.running ∷ s.queue (level s s.running)) (k.in_class s.running)
            (λ x b. omega (arith, one_other 0 x (omega arith))) (omega (arith, one_other s.running 0 d, k.null_nowhere (level s s.running)))
            (λ x. ⊎_elim (λ e o. rw e refl) (λ e o. k.own_class (level s s.running) x (k.in_class s.running) (omega (arith, one_other s.running x e))) (cases_eq s.running x)),
      ))
      (cases_eq s.running 0)

pub settle-seated : (n : ℕ) (s : Procs) → Seated n s → Seated n (settle s)
unfolding settle
settle-seated n s k = let d = down_seated n s k in choose-seated n (stand_down s) d.1 d.0

pub settle-highest : (n : ℕ) (s : Procs) → Seated n s → Highest (settle s)
unfolding settle
settle-highest n s k = choose-highest n (stand_down s) (down_seated n s k).1

-- ---- what settling leaves alone

pub record Kept (s s' : Procs) : Type 0 where
  pub class : s'.class ≡ s.class
  pub ticks : s'.ticks ≡ s.ticks
  pub waiting : (q : ℕ) → classes ≤ q → s'.queue q ≡ s.queue q
  pub placed : (x : ℕ) → 1 ≤ x → places s' x ≡ places s x

choose_kept : (s : Procs) → s.running ≡ 0 → Kept s (choose s)
choose_kept s z = ⊎_elim
    (λ (p : Picks classes s (choose s)). rw p.result (record {
      class = refl;
      ticks = refl;
      waiting = λ q h. put_other s.queue p.c p.l q (omega (arith, p.below));
      placed = λ x h. omega (
        arith,
        one_other s.running x (omega arith),
        spots-run s.running p.w (put s.queue p.c p.l) x,
        spots-line s.running s.queue p.c p.l x (omega (arith, p.below)),
        ap (occurs x) p.stood,
      );
    }))
    (λ (p : Rests classes s (choose s)). rw p.result (record
    { class = refl; ticks = refl; waiting = λ q h. refl; placed = λ x h. ap (λ (r : ℕ). places (run r s) x) (sym z) }))
    (choice s)

down_kept : (n : ℕ) (s : Procs) → Seated n s → Kept s (stand_down s)
down_kept n s k = ⊎_elim
    (λ (z : s.running ≡ 0). rw (down_idle s z) (record { class = refl; ticks = refl; waiting = λ q h. refl; placed = λ x h. refl }))
    (λ (d : s.running ≢ 0).
    let c : ℕ = level s s.running in
    let l : List ℕ = s.running ∷ s.queue c in
    rw (down_front s d) (record {
      class = refl;
      ticks = refl;
      waiting = λ q h. put_other s.queue c l q (omega (arith, k.in_class s.running));
      placed = λ x h. omega (
        arith,
        spots-run s.running 0 (put s.queue c l) x,
        spots-line s.running s.queue c l x (omega (arith, k.in_class s.running)),
        one_other 0 x (omega arith),
      );
    }))
    (cases_eq s.running 0)

pub settle_kept : (n : ℕ) (s : Procs) → Seated n s → Kept s (settle s)
unfolding settle
settle_kept n s k =
    let a = down_kept n s k in
    let b = choose_kept (stand_down s) (down_seated n s k).0 in
    record {
      class = b.class ∙ a.class;
      ticks = b.ticks ∙ a.ticks;
      waiting = λ q h. b.waiting q h ∙ a.waiting q h;
      placed = λ x h. b.placed x h ∙ a.placed x h;
    }

-- ---- a runner with nobody above it stays

lines_same : (f : ℕ → List ℕ) (s : Procs) → ((q : ℕ) → f q ≡ s.queue q) → lines f s ≡ s
lines_same f s h = ap (λ (g : ℕ → List ℕ). lines g s) (fun_ext h)

pub settle_still : (s : Procs) → ((x : ℕ) → level s x < classes) → Highest s → settle s ≡ s
unfolding settle
settle_still s cls hi = ⊎_elim
    (λ (z : s.running ≡ 0). rw (down_idle s z) (choose_none s (λ d h. hi d h (λ b. absurd (b z))) ∙ ap (λ (r : ℕ). run r s) (sym z)))
    (λ (d : s.running ≢ 0).
    let c : ℕ = level s s.running in
    let l : List ℕ = s.running ∷ s.queue c in
    rw (down_front s d) (
    choose_is (run 0 (line c l s)) c s.running (s.queue c) (cls s.running) (put_same s.queue c l)
    (λ i b h. put_other s.queue c l i (omega arith) ∙ hi i h (λ g. b))
    ∙ lines_same (put (put s.queue c l) c (s.queue c)) s (λ q. put_cases (λ (a : List ℕ). a ≡ s.queue q) (put s.queue c l) c (s.queue c) q
    (λ e. ap s.queue (sym e)) (λ e. put_other s.queue c l q e))))
    (cases_eq s.running 0)
