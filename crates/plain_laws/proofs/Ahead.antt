-- Who is ahead of a ready process: laws of standing before it in a list, and that settling changes nothing of it.
-- Assumes nothing.
use Prim.Native.Nat.{ℕ, ◌≤◌}
use mathlib.Core.Path.{◌≡◌, refl, sym, ap, ◌∙◌, subst}
use mathlib.Core.Bool.{Bool, true, false, ◌||◌, or-true, true≢false}
use mathlib.Core.Logic.{◌≢◌, ◌⊎◌, inl, inr, ⊎_elim}
use mathlib.Core.List.{List, [], ◌∷◌, ◌++◌}
use native.Mathlib.Omega.{arith}
use lib.Dec.{eqb}
use borrow.Author.Tests.{eq-eqb, ne_eqb}
use Rattle.lists.specs.Lists.{put, one, occurs, without}
use Rattle.std.proofs.lemmas.Bool.{cases_eq}
use Rattle.lists.proofs.Laws.{put_same, put_other, one_same, one_other, occurs-without-same}
use Rattle.plain.specs.Sizes.{classes}
use Rattle.plain.specs.State.{Procs, level}
use Rattle.plain.specs.Runs.{choose, stand_down}
use Rattle.plain.specs.Sound.{Seated}
use Rattle.plain_laws.specs.Moves.{settle}
use Rattle.plain_laws.specs.History.{Ready, on_duty, leads, is_ahead}
use Rattle.plain_laws.proofs.Seats.{head_in, member}
use Rattle.plain_laws.proofs.Settle.{Picks, Rests, choice, down_idle, down_front, down_seated}

-- ---- standing before p in a list

pub leads_front : (x p y : ℕ) (l : List ℕ) → y ≢ p → leads x p (y ∷ l) ≡ (eqb y x || leads x p l)
leads_front x p y l d = rw (ne_eqb y p d) refl

pub leads_rear : (x p : ℕ) (l r : List ℕ) → 1 ≤ occurs p l → leads x p (l ++ r) ≡ leads x p l
leads_rear x p [] r o = absurd (omega arith)
leads_rear x p (y ∷ l) r o = ⊎_elim (λ e. rw (eq-eqb y p e) refl)
    (λ (d : y ≢ p). rw (ne_eqb y p d) (ap (λ (t : Bool). eqb y x || t) (leads_rear x p l r (omega (arith, one_other y p d))))) (cases_eq y p)

pub leads_in : (x p : ℕ) (l : List ℕ) → leads x p l ≡ true → 1 ≤ occurs x l
leads_in x p [] e = absurd (true≢false (sym e))
leads_in x p (y ∷ l) e = ⊎_elim
    (λ (d : y ≡ x). omega (arith, subst (λ (z : ℕ). one z x ≡ 1) (sym d) (one_same x)))
    (λ (d : y ≢ x). ⊎_elim
    (λ (b : y ≡ p). absurd (true≢false (sym e ∙ rw (eq-eqb y p b) refl)))
    (λ (b : y ≢ p). omega (arith, leads_in x p l (sym (rw (ne_eqb y p b, ne_eqb y x d) refl) ∙ e)))
    (cases_eq y p))
    (cases_eq y x)

or_right : (a b c : Bool) → (b ≡ true → c ≡ true) → (a || b) ≡ true → (a || c) ≡ true
or_right true b c h e = refl
or_right false b c h e = h e

leads-without : (x p y : ℕ) (l : List ℕ) → y ≢ p → leads x p (without y l) ≡ true → leads x p l ≡ true
leads-without x p y [] d = λ e. e
leads-without x p y (z ∷ l) d = ⊎_elim
    (λ (b : z ≡ y). rw (eq-eqb z y b, ne_eqb z p (λ i. d (sym b ∙ i))) (λ e. rw (leads-without x p y l d e) (or-true (eqb z x))))
    (λ (b : z ≢ y). rw (ne_eqb z y b) (⊎_elim
    (λ (i : z ≡ p). rw (eq-eqb z p i) (λ e. e))
    (λ (i : z ≢ p). rw (ne_eqb z p i) (or_right (eqb z x) (leads x p (without y l)) (leads x p l) (leads-without x p y l d)))
    (cases_eq z p)))
    (cases_eq z y)

-- who is ahead of p once y has left is another, and was ahead before
pub left_behind : (x p y : ℕ) (l : List ℕ) → y ≢ p → leads x p (without y l) ≡ true → (x ≢ y) × (leads x p l ≡ true)
left_behind x p y l d a = (
  (λ e. let z : occurs x (without y l) ≡ 0 = rw e (occurs-without-same y l) in omega (arith, leads_in x p (without y l) a)),
  leads-without x p y l d a,
)

-- ---- who runs as one of p's class

pub duty_on : (s : Procs) (p x : ℕ) → s.running ≢ 0 → level s s.running ≡ level s p → on_duty s p x ≡ eqb s.running x
duty_on s p x z c = ⊎_elim
    (λ (e : x ≡ s.running). rw (e, eq-eqb s.running s.running refl, ne_eqb s.running 0 z, eq-eqb (level s s.running) (level s p) c) refl)
    (λ (d : x ≢ s.running). rw (ne_eqb x s.running d, ne_eqb s.running x (λ e. d (sym e))) refl)
    (cases_eq x s.running)

pub duty_off : (s : Procs) (p x : ℕ) → (s.running ≢ 0 → level s s.running ≢ level s p) → on_duty s p x ≡ false
duty_off s p x h = ⊎_elim
    (λ (e : x ≡ s.running). rw (e, eq-eqb s.running s.running refl) (⊎_elim
    (λ (z : s.running ≡ 0). rw (eq-eqb s.running 0 z) refl)
    (λ (z : s.running ≢ 0). rw (ne_eqb s.running 0 z, ne_eqb (level s s.running) (level s p) (h z)) refl)
    (cases_eq s.running 0)))
    (λ (d : x ≢ s.running). rw (ne_eqb x s.running d) refl)
    (cases_eq x s.running)

-- ---- settling: p runs, or it is ready as before, and the same are ahead of it

pub record Alike (p : ℕ) (s s' : Procs) : Type 0 where
  pub class : s'.class ≡ s.class
  pub ticks : s'.ticks ≡ s.ticks
  pub ready : Ready s' p
  pub same : (x : ℕ) → is_ahead s' p x ≡ is_ahead s p x

module _ (n p : ℕ) (s : Procs) (k : Seated n s) (o : Ready s p) where
  down_alike : s.running ≢ p → Alike p s (stand_down s)
  down_alike d = ⊎_elim
      (λ (z : s.running ≡ 0). rw (down_idle s z) (record { class = refl; ticks = refl; ready = o; same = λ x. refl }))
      (λ (z : s.running ≢ 0). rw (down_front s z) (
      let r : ℕ = s.running in
      let l : List ℕ = r ∷ s.queue (level s r) in
      let idle : (x : ℕ) → on_duty (record { running = 0; queue = s.queue; class = s.class; ticks = s.ticks }) p x ≡ false =
      λ x. duty_off (record { running = 0; queue = s.queue; class = s.class; ticks = s.ticks }) p x (λ b. absurd (b refl)) in
      ⊎_elim
      (λ (e : level s r ≡ level s p).
      let front : put s.queue (level s r) l (level s p) ≡ r ∷ s.queue (level s p) = rw e (put_same s.queue (level s p) (r ∷ s.queue (level s p))) in
      record {
        class = refl;
        ticks = refl;
        ready = subst (λ (a : List ℕ). 1 ≤ occurs p a) (sym front) (omega arith);
        same = λ x. rw (idle x, front, duty_on s p x z e) (leads_front x p r (s.queue (level s p)) d);
      })
      (λ (e : level s r ≢ level s p).
      let there : put s.queue (level s r) l (level s p) ≡ s.queue (level s p) = put_other s.queue (level s r) l (level s p) (λ i. e (sym i)) in
      record {
        class = refl;
        ticks = refl;
        ready = subst (λ (a : List ℕ). 1 ≤ occurs p a) (sym there) o;
        same = λ x. rw (idle x, there, duty_off s p x (λ b. e)) refl;
      })
      (cases_eq (level s r) (level s p))))
      (cases_eq s.running 0)

  choose_alike : s.running ≡ 0 → ((choose s).running ≡ p) ⊎ Alike p s (choose s)
  choose_alike z = ⊎_elim
      (λ (pk : Picks classes s (choose s)). rw pk.result (⊎_elim
      (λ e. inl e)
      (λ (d : pk.w ≢ p). inr (
      let here = head_in n s k pk.c pk.w pk.l pk.stood in
      let who = member n s k pk.c pk.w here in
      let own : level s pk.w ≡ pk.c = k.own_class pk.c pk.w pk.below here in
      let s' : Procs = record { running = pk.w; queue = put s.queue pk.c pk.l; class = s.class; ticks = s.ticks } in
      ⊎_elim
      (λ (e : pk.c ≡ level s p).
      let was : s.queue (level s p) ≡ pk.w ∷ pk.l = ap s.queue (sym e) ∙ pk.stood in
      let there : put s.queue pk.c pk.l (level s p) ≡ pk.l = ap (put s.queue pk.c pk.l) (sym e) ∙ put_same s.queue pk.c pk.l in
      record {
        class = refl;
        ticks = refl;
        ready = subst (λ (a : List ℕ). 1 ≤ occurs p a) (sym there) (omega (arith, ap (occurs p) was, one_other pk.w p d));
        same = λ x. rw (duty_on s' p x (λ b. omega (arith, who.0)) (own ∙ e), there, duty_off s p x (λ b. absurd (b z)), was) (sym (leads_front x p pk.w pk.l d));
      })
      (λ (e : pk.c ≢ level s p).
      let there : put s.queue pk.c pk.l (level s p) ≡ s.queue (level s p) = put_other s.queue pk.c pk.l (level s p) (λ i. e (sym i)) in
      record {
        class = refl;
        ticks = refl;
        ready = subst (λ (a : List ℕ). 1 ≤ occurs p a) (sym there) o;
        same = λ x. rw (duty_off s' p x (λ b i. e (sym own ∙ i)), there, duty_off s p x (λ b. absurd (b z))) refl;
      })
      (cases_eq pk.c (level s p))))
      (cases_eq pk.w p)))
      (λ (rs : Rests classes s (choose s)). absurd (omega (arith, ap (occurs p) (rs.nobody (level s p) (k.in_class p)))))
      (choice s)

pub settle_alike : (n p : ℕ) (s : Procs) → Seated n s → Ready s p → s.running ≢ p → ((settle s).running ≡ p) ⊎ Alike p s (settle s)
unfolding settle
settle_alike n p s k o d =
    let a : Alike p s (stand_down s) = down_alike n p s k o d in
    let k' = down_seated n s k in
    ⊎_elim (λ e. inl e)
    (λ (b : Alike p (stand_down s) (choose (stand_down s))). inr (record {
      class = b.class ∙ a.class;
      ticks = b.ticks ∙ a.ticks;
      ready = b.ready;
      same = λ x. b.same x ∙ a.same x;
    }))
    (choose_alike n p (stand_down s) k'.1 a.ready k'.0)
