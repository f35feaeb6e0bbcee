-- Who newly waits, who is newly unused and who newly used after a chain of moves, settled, where a full slice has n ticks.
-- Assumes nothing.
use Prim.Native.Nat.{ℕ, ◌≤◌, ◌<◌}
use mathlib.Core.Path.{◌≡◌, refl, sym, ap, ◌∙◌, subst}
use mathlib.Core.Logic.{◌≢◌, ◌⊎◌, inl, inr, ⊎_elim}
use mathlib.Core.List.{List}
use native.Mathlib.Omega.{arith}
use Rattle.lists.specs.Lists.{occurs, without}
use Rattle.std.proofs.lemmas.Bool.{cases_eq}
use Rattle.lists.proofs.Laws.{occurs-without-same, occurs-without_other}
use Rattle.plain.specs.Sizes.{processes, classes, queues}
use Rattle.plain.specs.State.{Procs, State, places}
use Rattle.plain.specs.Sound.{Seated, Sound, In}
use Rattle.plain_laws.specs.Moves.{leave, to_rear, settle, Move, none, Chain}
use Rattle.plain_laws.proofs.Places.{leave-gone, leave_kept, rear_placed, rear_kept, rear_other, rear_elsewhere, rear_only}
use Rattle.plain_laws.proofs.Seats.{rear_seated, chain_seated}
use Rattle.plain_laws.proofs.Settle.{settle_kept}

pub record Framed (s : Procs) (Enters : ℕ → ℕ → Type 0) (Ends Begins : ℕ → Type 0) (s' : Procs) : Type 0 where
  pub waiting : (q x : ℕ) → classes ≤ q → In s' q x → In s q x ⊎ Enters q x
  pub unused : (x : ℕ) → 1 ≤ x → places s' x ≡ 0 → (places s x ≡ 0) ⊎ Ends x
  pub rests : (x : ℕ) → 1 ≤ x → places s x ≡ 0 → (places s' x ≡ 0) ⊎ Begins x

-- nobody newly waits; nobody is newly unused, or newly used
abbrev pub Nowhere : ℕ → ℕ → Type 0
Nowhere q x = ⊥

abbrev pub Nobody : ℕ → Type 0
Nobody x = ⊥

pub slice_some : (s : State) → Sound s → 1 ≤ s.settings.slice
slice_some s k = k.settings.some_ticks

settled_framed : (n : ℕ) (s m : Procs) (Enters : ℕ → ℕ → Type 0) (Ends Begins : ℕ → Type 0) → Seated n m → Framed s Enters Ends Begins m → Framed s Enters Ends Begins (settle m)
settled_framed n s m Enters Ends Begins k f =
    let h = settle_kept n m k in
    record {
      waiting = λ q x b o. f.waiting q x b (subst (λ (l : List ℕ). 1 ≤ occurs x l) (h.waiting q b) o);
      unused = λ x b z. f.unused x b (sym (h.placed x b) ∙ z);
      rests = λ x b z. ⊎_elim (λ e. inl (h.placed x b ∙ e)) (λ y. inr y) (f.rests x b z);
    }

-- p, who begins if it was unused, comes to the rear of queue q
pub rear_framed : (Begins : ℕ → Type 0) (q p c t : ℕ) (s : Procs) → q < queues → 1 ≤ p → (places s p ≡ 0 → Begins p) → Framed s (λ i x. (i ≡ q) × (x ≡ p)) Nobody Begins (to_rear q p c t s)
rear_framed Begins q p c t s hq hp new = record {
  waiting = λ i x b o. ⊎_elim
      (λ (e : x ≡ p). inr (rear_only p c t s q i (subst (λ (z : ℕ). In (to_rear q p c t s) i z) e o), e))
      (λ (d : x ≢ p). inl (omega (arith, rear_other p c t s q i x d)))
      (cases_eq x p);
  unused = λ x b z. ⊎_elim
      (λ (e : x ≡ p). absurd (omega (arith, rear_placed p c t s q hq hp, subst (λ (y : ℕ). places (to_rear q p c t s) y ≡ 0) e z)))
      (λ (d : x ≢ p). inl (sym (rear_kept p c t s q x hq b d) ∙ z))
      (cases_eq x p);
  rests = λ x b z. ⊎_elim
      (λ (e : x ≡ p). inr (subst Begins (sym e) (new (subst (λ (y : ℕ). places s y ≡ 0) e z))))
      (λ (d : x ≢ p). inl (rear_kept p c t s q x hq b d ∙ z))
      (cases_eq x p);
}

-- to the rear of a class nobody comes to wait
pub class_framed : (Begins : ℕ → Type 0) (q p c t : ℕ) (s : Procs) → q < classes → 1 ≤ p → (places s p ≡ 0 → Begins p) → Framed s Nowhere Nobody Begins (to_rear q p c t s)
class_framed Begins q p c t s hq hp new =
    let f = rear_framed Begins q p c t s (omega arith) hp new in
    record {
      waiting = λ i x b o. ⊎_elim (λ y. inl y) (λ e. absurd (omega (arith, e.0))) (f.waiting i x b o);
      unused = f.unused;
      rests = f.rests;
    }

pub gone_framed : (p : ℕ) (s : Procs) → 1 ≤ p → Framed s Nowhere (λ x. x ≡ p) Nobody (leave p 0 0 s)
unfolding leave
gone_framed p s h = record {
  waiting = λ q x b o. ⊎_elim
      (λ (e : x ≡ p). absurd (omega (arith, subst (λ (z : ℕ). occurs z (without p (s.queue q)) ≡ 0) (sym e) (occurs-without-same p (s.queue q)))))
      (λ (d : x ≢ p). inl (omega (arith, occurs-without_other x p (s.queue q) d)))
      (cases_eq x p);
  unused = λ x b z. ⊎_elim (λ e. inr e) (λ (d : x ≢ p). inl (sym (leave_kept p 0 0 s x b d) ∙ z)) (cases_eq x p);
  rests = λ x b z. inl (⊎_elim (λ (e : x ≡ p). subst (λ (y : ℕ). places (leave p 0 0 s) y ≡ 0) (sym e) (leave-gone p 0 0 s h)) (λ (d : x ≢ p). leave_kept p 0 0 s x b d ∙ z) (cases_eq x p));
}

pub same_framed : (s : Procs) (t : ℕ → ℕ) → Framed s Nowhere Nobody Nobody (record { running = s.running; queue = s.queue; class = s.class; ticks = t })
same_framed s t = record { waiting = λ q x b o. inl o; unused = λ x b z. inl z; rests = λ x b z. inl z }

-- who went to the rear of a class is used afterwards, and waits nowhere
pub arrived : (n p c : ℕ) (s s' : Procs) → 1 ≤ n → Seated n s → c < classes → 1 ≤ p → p < processes → s' ≡ settle (to_rear c p c n s)
    → (places s' p ≡ 1) × ((q : ℕ) → classes ≤ q → occurs p (s'.queue q) ≡ 0)
arrived n p c s s' some k hc hp hp' e =
    let m : Procs = to_rear c p c n s in
    let h = settle_kept n m (rear_seated n s k c p c n (omega arith) hp hp' hc (λ z. refl) some (omega arith) (λ z. refl)) in
    rw e (
      h.placed p hp ∙ rear_placed p c n s c (omega arith) hp,
      λ q b. ap (occurs p) (h.waiting q b) ∙ (ap (occurs p) (rear_elsewhere p c n s c q (omega arith)) ∙ occurs-without-same p (s.queue q)),
    )

-- s' is s after a chain of moves that lets d ticks fall, settled
pub record Moved (n : ℕ) (s : Procs) (d : ℕ) (s' : Procs) : Type 0 where
  pub to : Procs
  pub chain : Chain n s d to
  pub settled : s' ≡ settle to

-- and who entered a queue of waiters, whose number ended, and whose began
pub record Shifted (n : ℕ) (s : Procs) (d : ℕ) (Enters : ℕ → ℕ → Type 0) (Ends Begins : ℕ → Type 0) (s' : Procs) : Type 0 where
  pub moved : Moved n s d s'
  pub framed : Framed s Enters Ends Begins s'

-- a chain of one
pub only : {n d : ℕ} {s m : Procs} → Move n s d m → Chain n s d m
only {m = m} v = record { midway = m; first = v; others = none }

pub shift : (n : ℕ) (s : Procs) (d : ℕ) (Enters : ℕ → ℕ → Type 0) (Ends Begins : ℕ → Type 0) (s' m : Procs) → 1 ≤ n → Seated n s → Chain n s d m → Framed s Enters Ends Begins m → s' ≡ settle m
    → Shifted n s d Enters Ends Begins s'
shift n s d Enters Ends Begins s' m some k v f e = record {
  moved = record { to = m; chain = v; settled = e };
  framed = subst (Framed s Enters Ends Begins) (sym e) (settled_framed n s m Enters Ends Begins (chain_seated n s k d m some v) f);
}
