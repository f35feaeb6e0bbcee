-- Demand 3: who is ready gets its turn, whatever is called.
-- Assumes nothing.
use Prim.Native.Nat.{ℕ, suc, ◌+◌, ◌*◌, ◌≤◌, ◌<◌}
use mathlib.Core.Path.{◌≡◌, refl, sym, ap, ◌∙◌, subst}
use mathlib.Core.Bool.{Bool, true, false, not, ◌&&◌, or-true, and-false, true≢false}
use mathlib.Core.Logic.{◌≢◌, ◌⊎◌, inl, inr, ⊎_elim}
use mathlib.Core.List.{List, [], ◌∷◌, ◌++◌}
use native.Mathlib.Omega.{arith}
use lib.Dec.{eqb, leb}
use borrow.Author.Tests.{eq-eqb, ne_eqb, eqb-true, lt-leb}
use Rattle.std.specs.Prelude.{if◌then◌else◌}
use Rattle.lists.specs.Lists.{put, occurs, without, total}
use Rattle.std.proofs.lemmas.Bool.{or_cases, cases_Bool, or_parts, and_parts, cases_eq}
use Rattle.lists.proofs.Laws.{le?, put_same, put_other, put_cases, occurs-append, occurs-without_other, total-at, total-le, total_lt, total_times}
use Rattle.plain.specs.Sizes.{processes}
use Rattle.plain.specs.State.{Procs, State, level, places}
use Rattle.plain.specs.Calls.{Call, step}
use Rattle.plain.specs.Sound.{Seated, Sound}
use Rattle.plain_laws.specs.Moves.{rid, leave, to_rear, settle, Move, stay, idle, spend, again, rear, pause, halt, Others, none, also, Chain}
use Rattle.plain_laws.specs.History.{kind, is_tick, as_one, is_refusal, Ready, on_duty, leads, is_ahead, count_ahead, is_over, moment, moments, ticks_seen, turns_before, joiners, joined, overtaken}
use Rattle.plain_laws.specs.Theorems.{Fair}
use Rattle.plain_laws.proofs.Places.{runs_once, leave-gone, rear_other, rear_elsewhere, rear_there}
use Rattle.plain_laws.proofs.Seats.{member, runner_range, queued_rests, move-seated, chain_seated}
use Rattle.plain_laws.proofs.Settle.{settle_kept}
use Rattle.plain_laws.proofs.Frames.{slice_some}
use Rattle.plain_laws.proofs.Sound.{step_sound, step_moved}
use Rattle.plain_laws.proofs.Rear.{Rejoins, rejoins}
use Rattle.plain_laws.proofs.Ahead.{leads_rear, left_behind, duty_on, Alike, settle_alike}

-- who runs as one of p's class
duty : (s : Procs) (p x : ℕ) → on_duty s p x ≡ true → (x ≡ s.running) × (x ≢ 0) × (level s x ≡ level s p)
duty s p x e =
    let a = and_parts (eqb x s.running) (not (eqb x 0) && eqb (level s x) (level s p)) e in
    let b = and_parts (not (eqb x 0)) (eqb (level s x) (level s p)) a.1 in
    (eqb-true x s.running a.0, (λ z. true≢false (sym b.0 ∙ ap not (eq-eqb x 0 z))), eqb-true (level s x) (level s p) b.1)

-- p fares: it is ready as before, nobody new is ahead of it, and of those who are nobody has more ticks; the runner, if ahead, has fewer after a tick
pub record Fares (d p : ℕ) (s s' : Procs) : Type 0 where
  pub class : level s' p ≡ level s p
  pub ready : Ready s' p
  pub rests : s'.running ≢ p
  pub kept : (x : ℕ) → is_ahead s' p x ≡ true → (is_ahead s p x ≡ true) × (s'.ticks x ≤ s.ticks x)
  pub spends : 1 ≤ d → on_duty s p s.running ≡ true → is_ahead s' p s.running ≡ true → s'.ticks s.running < s.ticks s.running

-- ---- one move, where a full slice has n ticks

module _ (n p : ℕ) (s : Procs) (k : Seated n s) (o : Ready s p) where
  abbrev c : ℕ
  c = level s p

  p-used : 1 ≤ p
  p-used = (member n s k c p o).0

  p_rests : s.running ≢ p
  p_rests = queued_rests n s k c p o

  -- y has left its place for m; who stands before p in its queue then is another, and stood there before
  module _ (y e t : ℕ) (m : Procs) (apart : y ≢ p) (run_is : m.running ≡ rid s.running y) (class-is : m.class ≡ put s.class y e)
      (behind : (x : ℕ) → leads x p (m.queue c) ≡ true → (x ≢ y) × (leads x p (s.queue c) ≡ true)) where
    same_class : (x : ℕ) → x ≢ y → level m x ≡ level s x
    same_class x b = ap (λ (f : ℕ → ℕ). f x) class-is ∙ put_other s.class y e x b

    p_class : level m p ≡ c
    p_class = same_class p (λ b. apart (sym b))

    ran : (x : ℕ) → x ≢ 0 → x ≡ m.running → (x ≡ s.running) × (x ≢ y)
    ran x z b = ⊎_elim
        (λ (i : s.running ≡ y). absurd (z (b ∙ (run_is ∙ rw (eq-eqb s.running y i) refl))))
        (λ (i : s.running ≢ y). let w : x ≡ s.running = b ∙ (run_is ∙ rw (ne_eqb s.running y i) refl) in (w, λ g. i (sym w ∙ g)))
        (cases_eq s.running y)

    -- who is ahead of p is not y, and was ahead before
    was : (x : ℕ) → is_ahead m p x ≡ true → (x ≢ y) × (is_ahead s p x ≡ true)
    was x a = ⊎_elim
        (λ (b : on_duty m p x ≡ true).
        let w = duty m p x b in
        let v = ran x w.1 w.0 in
        let cls : level s s.running ≡ c = ap (level s) (sym v.0) ∙ (sym (same_class x v.1) ∙ (w.2 ∙ p_class)) in
        (v.1, rw (duty_on s p x (λ z. w.1 (v.0 ∙ z)) cls, eq-eqb s.running x (sym v.0)) refl))
        (λ (b : leads x p (m.queue (level m p)) ≡ true).
        let w = behind x (subst (λ (i : ℕ). leads x p (m.queue i) ≡ true) p_class b) in
        (w.0, rw w.1 (or-true (on_duty s p x))))
        (or_cases (on_duty m p x) (leads x p (m.queue (level m p))) a)

    removed : (d : ℕ) → m.ticks ≡ put s.ticks y t → 1 ≤ occurs p (m.queue c) → (1 ≤ d → y ≡ s.running) → Fares d p s m
    removed d ticks-are there falls = record {
      class = p_class;
      ready = subst (λ (i : ℕ). 1 ≤ occurs p (m.queue i)) (sym p_class) there;
      rests = λ i. p_rests (sym (ran p (omega (arith, p-used)) (sym i)).0);
      kept = λ x a. let w = was x a in (w.1, subst (λ (f : ℕ → ℕ). f x ≤ s.ticks x) (sym ticks-are) (put_cases (λ (a : ℕ). a ≤ s.ticks x) s.ticks y t x (λ b. absurd (w.0 b)) (λ b. omega arith)));
      spends = λ h b a. absurd ((was s.running a).0 (sym (falls h)));
    }

  -- y goes to the rear of queue q
  module _ (q y e t : ℕ) (apart : y ≢ p) where
    rear_leads : (x : ℕ) → leads x p ((to_rear q y e t s).queue c) ≡ true → (x ≢ y) × (leads x p (s.queue c) ≡ true)
    rear_leads x = ⊎_elim
        (λ (i : c ≡ q).
        let rear-of : (to_rear q y e t s).queue c ≡ without y (s.queue c) ++ (y ∷ []) = ap (to_rear q y e t s).queue i ∙ (rear_there y e t s q ∙ ap (λ (j : ℕ). without y (s.queue j) ++ (y ∷ [])) (sym i)) in
        rw (rear-of, leads_rear x p (without y (s.queue c)) (y ∷ []) (omega (arith, occurs-without_other p y (s.queue c) (λ b. apart (sym b))))) (left_behind x p y (s.queue c) apart))
        (λ (i : c ≢ q). rw (rear_elsewhere y e t s q c i) (left_behind x p y (s.queue c) apart))
        (cases_eq c q)

    rear_fares : (d : ℕ) → (1 ≤ d → y ≡ s.running) → Fares d p s (to_rear q y e t s)
    rear_fares d falls =
        removed y e t (to_rear q y e t s) apart (unfold to_rear leave in refl) (unfold to_rear leave in refl) rear_leads d (unfold to_rear leave in refl)
        (omega (arith, rear_other y e t s q c p (λ b. apart (sym b)))) falls

    -- and is not ahead of p there
    rear_behind : is_ahead (to_rear q y e t s) p y ≡ false
    rear_behind = ⊎_elim
        (λ a. absurd ((was y e t (to_rear q y e t s) apart (unfold to_rear leave in refl) (unfold to_rear leave in refl) rear_leads y a).0 refl))
        (λ a. a) (cases_Bool (is_ahead (to_rear q y e t s) p y))

  gone_fares : (y : ℕ) → y ≢ p → Fares 0 p s (leave y 0 0 s)
  unfolding leave
  gone_fares y apart =
      removed y 0 0 (leave y 0 0 s) apart refl refl (λ x. left_behind x p y (s.queue c) apart) 0 refl (omega (arith, occurs-without_other p y (s.queue c) (λ b. apart (sym b)))) (λ h. absurd (omega arith))

  stay_fares : (d : ℕ) → (1 ≤ d → s.running ≡ 0) → Fares d p s s
  stay_fares d h = record {
    class = refl;
    ready = o;
    rests = p_rests;
    kept = λ x a. (a, omega arith);
    spends = λ b e a. absurd ((duty s p s.running e).1 (h b));
  }

  -- p was stopped, or fares
  move_fares : (d : ℕ) (m : Procs) → Move n s d m → (places m p ≡ 0) ⊎ Fares d p s m
  move_fares d m stay = inr (stay_fares 0 (λ h. absurd (omega arith)))
  move_fares d m (idle z) = inr (stay_fares 1 (λ h. z))
  move_fares d m (spend t z e) = inr (record {
    class = refl;
    ready = o;
    rests = p_rests;
    kept = λ x a. (a, put_cases (λ (b : ℕ). b ≤ s.ticks x) s.ticks s.running (suc t) x (λ i. rw i (omega arith)) (λ i. omega arith));
    spends = λ h b a. rw (put_same s.ticks s.running (suc t)) (omega arith);
  })
  move_fares d m (again z) = inr (rear_fares (level s s.running) s.running (s.class s.running) n p_rests 1 (λ h. refl))
  move_fares d m (rear y e y₁ y₂ away he) = inr (rear_fares e y e n (λ i. omega (arith, away c (k.in_class p), subst (λ (x : ℕ). occurs x (s.queue c) ≡ 0) i (away c (k.in_class p)))) 0 (λ h. absurd (omega arith)))
  move_fares d m (pause q z h₅ hq) = inr (rear_fares q s.running (s.class s.running) n p_rests 0 (λ h. absurd (omega arith)))
  move_fares d m (halt y y₁) = ⊎_elim (λ (e : y ≡ p). inl (subst (λ (x : ℕ). places (leave y 0 0 s) x ≡ 0) e (leave-gone y 0 0 s y₁))) (λ e. inr (gone_fares y e)) (cases_eq y p)

  -- and then who runs: p itself, or it fares
  settle_fares : (d : ℕ) (m : Procs) → Seated n m → Fares d p s m → ((settle m).running ≡ p) ⊎ Fares d p s (settle m)
  settle_fares d m km f = ⊎_elim (λ e. inl e)
      (λ (a : Alike p m (settle m)). ⊎_elim (λ e. inl e) (λ (r : (settle m).running ≢ p). inr (record {
        class = ap (λ (g : ℕ → ℕ). g p) a.class ∙ f.class;
        ready = a.ready;
        rests = r;
        kept = λ x b. let w = f.kept x (sym (a.same x) ∙ b) in (w.0, subst (λ (g : ℕ → ℕ). g x ≤ s.ticks x) (sym a.ticks) w.1);
        spends = λ h b i. subst (λ (g : ℕ → ℕ). g s.running < s.ticks s.running) (sym a.ticks) (f.spends h b (sym (a.same s.running) ∙ i));
      })) (cases_eq (settle m).running p))
      (settle_alike n p m km f.ready f.rests)

  -- ---- what those ahead still have

  -- the sum of v over those ahead of p
  abbrev load : (ℕ → ℕ) → Procs → ℕ → ℕ
  load v r x = if is_ahead r p x then v x else 0

  load-on : (v : ℕ → ℕ) (r : Procs) (x : ℕ) → is_ahead r p x ≡ true → load v r x ≡ v x
  load-on v r x e = rw e refl

  runner-load : on_duty s p s.running ≡ true → (1 ≤ s.ticks s.running) × (load s.ticks s s.running ≡ s.ticks s.running)
  runner-load e =
      let w = duty s p s.running e in
      (k.ticks_left s.running (omega (arith, w.1)) (runs_once s), load-on s.ticks s s.running (rw e refl))

  load_falls : (d : ℕ) (s' : Procs) → Fares d p s s' → (x : ℕ) → load s'.ticks s' x ≤ load s.ticks s x
  load_falls d s' f x = ⊎_elim
      (λ (e : is_ahead s' p x ≡ true). let w = f.kept x e in omega (arith, load-on s'.ticks s' x e, load-on s.ticks s x w.0, w.1))
      (λ (e : is_ahead s' p x ≡ false). rw e (omega arith))
      (cases_Bool (is_ahead s' p x))

  -- a tick that falls while p's class runs is one of them
  sum_falls : (t : Bool) (s' : Procs) → Fares (as_one t) p s s'
      → as_one (t && on_duty s p s.running) + total processes (load s'.ticks s') ≤ total processes (load s.ticks s)
  sum_falls false s' f = omega (arith, total-le processes (load s'.ticks s') (load s.ticks s) (load_falls 0 s' f))
  sum_falls true s' f = ⊎_elim
      (λ (e : on_duty s p s.running ≡ true).
      let w = runner-load e in
      let less : load s'.ticks s' s.running < load s.ticks s s.running = ⊎_elim
      (λ (a : is_ahead s' p s.running ≡ true). omega (arith, load-on s'.ticks s' s.running a, f.spends (omega arith) e a, w.1))
      (λ (a : is_ahead s' p s.running ≡ false). rw a (omega (arith, w.0, w.1)))
      (cases_Bool (is_ahead s' p s.running)) in
      rw e (omega (arith, total_lt processes (load s'.ticks s') (load s.ticks s) s.running (runner_range n s k) (load_falls 1 s' f) less)))
      (λ (e : on_duty s p s.running ≡ false). rw e (omega (arith, total-le processes (load s'.ticks s') (load s.ticks s) (load_falls 1 s' f))))
      (cases_Bool (on_duty s p s.running))

  tick_counts : (t : Bool) → as_one (t && on_duty s p s.running) ≤ total processes (load s.ticks s)
  tick_counts false = omega arith
  tick_counts true = ⊎_elim
      (λ (e : on_duty s p s.running ≡ true). let w = runner-load e in rw e (omega (arith, w.0, w.1, total-at processes (load s.ticks s) s.running (runner_range n s k))))
      (λ (e : on_duty s p s.running ≡ false). rw e (omega arith))
      (cases_Bool (on_duty s p s.running))

  -- n ticks for each at most
  sum_bound : total processes (load s.ticks s) ≤ n * count_ahead s p
  unfolding count_ahead
  sum_bound = total_times n processes (load s.ticks s) (λ x. as_one (is_ahead s p x)) (λ x. go x (is_ahead s p x))
    where
      go : (x : ℕ) (t : Bool) → (if t then s.ticks x else 0) ≤ n * as_one t
      go x true = omega (arith, k.ticks_most x)
      go x false = omega arith

-- ---- a chain of moves

fares_on : (d p : ℕ) (s m s' : Procs) → Fares d p s m → Fares 0 p m s' → Fares d p s s'
fares_on d p s m s' f g = record {
  class = g.class ∙ f.class;
  ready = g.ready;
  rests = g.rests;
  kept = λ x a. let w = g.kept x a in let v = f.kept x w.0 in (v.0, omega (arith, v.1, w.1));
  spends = λ h b a. let w = g.kept s.running a in omega (arith, f.spends h b w.0, w.1);
}

-- p was stopped, or fares
module _ (n p : ℕ) (h : 1 ≤ n) where
  others_fares : (d : ℕ) (s m : Procs) {s' : Procs} → 1 ≤ p → Seated n m → Others n m s' → (places m p ≡ 0) ⊎ Fares d p s m → (places s' p ≡ 0) ⊎ Fares d p s s'
  others_fares d s m hp k none f = f
  others_fares d s m hp k (also {m = m'} v kept rest) f = others_fares d s m' hp (move-seated n m k 0 m' h v) rest (⊎_elim
      (λ z. inl (kept p hp z))
      (λ (g : Fares d p s m). ⊎_elim (λ z. inl z) (λ (i : Fares 0 p m m'). inr (fares_on d p s m m' g i)) (move_fares n p m k g.ready 0 m' v)) f)

  chain_fares : (d : ℕ) (s m : Procs) (k : Seated n s) (o : Ready s p) → Chain n s d m → (places m p ≡ 0) ⊎ Fares d p s m
  chain_fares d s m k o v = others_fares d s v.midway (p-used n p s k o) (move-seated n s k d v.midway h v.first) v.others (move_fares n p s k o d v.midway v.first)

-- ---- one call, and any calls

over_runs : (s : Procs) (p : ℕ) → s.running ≡ p → is_over s p ≡ true
over_runs s p e = rw (eq-eqb s.running p e) refl

over_gone : (s : Procs) (p : ℕ) → places s p ≡ 0 → is_over s p ≡ true
over_gone s p e = rw (eq-eqb (places s p) 0 e) (or-true (eqb s.running p))

-- p runs or is stopped, or fares
onward : (p : ℕ) (s : State) (c : Call) → Sound s → Ready s.procs p
    → (is_over (step s c).next.procs p ≡ true) ⊎ Fares (as_one (is_tick (kind c))) p s.procs (step s c).next.procs
onward p s c k o =
    let n : ℕ = s.settings.slice in
    let v = step_moved s k c in
    let r' : Procs = (step s c).next.procs in
    let d : ℕ = as_one (is_tick (kind c)) in
    let seated : Seated n v.to = chain_seated n s.procs k.seated d v.to (slice_some s k) v.chain in
    ⊎_elim
    (λ (z : places v.to p ≡ 0). inl (over_gone r' p (rw v.settled ((settle_kept n v.to seated).placed p (p-used n p s.procs k.seated o) ∙ z))))
    (λ (f : Fares d p s.procs v.to). rw v.settled (⊎_elim (λ e. inl (over_runs (settle v.to) p e)) (λ g. inr g) (settle_fares n p s.procs k.seated o d v.to seated f)))
    (chain_fares n p (slice_some s k) d s.procs v.to k.seated o v.chain)

over_sees_none : (p : ℕ) (s : State) (cs : List Call) → is_over s.procs p ≡ true → ticks_seen p (moments s cs) ≡ 0
unfolding ticks_seen moments
over_sees_none p s [] e = refl
over_sees_none p s (c ∷ cs) e = rw e refl

sees : (p : ℕ) (s : State) (cs : List Call) (k : Sound s) (o : Ready s.procs p) → ticks_seen p (moments s cs) ≤ total processes (load s.settings.slice p s.procs k.seated o s.procs.ticks s.procs)
unfolding ticks_seen moments
sees p s [] k o = omega arith
sees p s (c ∷ cs) k o =
    let s' : State = (step s c).next in
    let t : Bool = is_tick (kind c) in
    let n : ℕ = s.settings.slice in
    let rest : as_one (t && on_duty s.procs p s.procs.running) + ticks_seen p (moments s' cs) ≤ total processes (load n p s.procs k.seated o s.procs.ticks s.procs) = ⊎_elim
    (λ (e : is_over s'.procs p ≡ true). omega (arith, over_sees_none p s' cs e, tick_counts n p s.procs k.seated o t))
    (λ (f : Fares (as_one t) p s.procs s'.procs). omega (arith, sum_falls n p s.procs k.seated o t s'.procs f, sees p s' cs (step_sound s k c) f.ready))
    (onward p s c k o) in
    ⊎_elim (λ e. rw e (omega arith)) (λ e. rw e rest) (cases_Bool (is_over s.procs p))

-- the first half
few_ticks : (p : ℕ) (s : State) (cs : List Call) → Sound s → Ready s.procs p → ticks_seen p (moments s cs) ≤ s.settings.slice * count_ahead s.procs p
few_ticks p s cs k o = omega (arith, sees p s cs k o, sum_bound s.settings.slice p s.procs k.seated o)

-- ---- the second half

module _ (p : ℕ) (s : State) (c : Call) (k : Sound s) (o : Ready s.procs p) where
  abbrev r' : Procs
  r' = (step s c).next.procs

  -- who is not ahead of p does not come to be
  stays_behind : Fares (as_one (is_tick (kind c))) p s.procs r' → (x : ℕ) → is_ahead s.procs p x ≡ false → is_ahead r' p x ≡ false
  stays_behind f x a = ⊎_elim (λ e. absurd (true≢false (sym (f.kept x e).0 ∙ a))) (λ e. e) (cases_Bool (is_ahead r' p x))

  -- who joins the rear is not ahead of p
  joins_behind : is_over r' p ≡ false → (x : ℕ) → 1 ≤ occurs x (joined (moment s c (step s c))) → is_ahead r' p x ≡ false
  joins_behind e x h = go (is_refusal (step s c).answer) refl h
    where
      n : ℕ
      n = s.settings.slice

      behind : Rejoins n s.procs x r' → is_ahead r' p x ≡ false
      behind j =
          let q : ℕ = level s.procs p in
          let out = j.away q (k.seated.in_class p) in
          let apart : x ≢ p = λ i. omega (arith, subst (λ (y : ℕ). occurs y (s.procs.queue q) ≡ 0) i out) in
          let m : Procs = to_rear j.class x j.class n s.procs in
          let f = rear_fares n p s.procs k.seated o j.class x j.class n apart 0 (λ h. absurd (omega arith)) in
          let seated : Seated n m = move-seated n s.procs k.seated 0 m (slice_some s k) (rear x j.class j.used j.inside j.away j.below) in
          ⊎_elim
          (λ (i : (settle m).running ≡ p). absurd (true≢false (sym (over_runs r' p (rw j.settled i)) ∙ e)))
          (λ (a : Alike p m (settle m)). rw j.settled (a.same x ∙ rear_behind n p s.procs k.seated o j.class x j.class n apart))
          (settle_alike n p m seated f.ready f.rests)

      go : (t : Bool) → is_refusal (step s c).answer ≡ t → 1 ≤ occurs x (if t then [] else joiners s.procs c) → is_ahead r' p x ≡ false
      go true i h = absurd (omega arith)
      go false i h = behind (rejoins s k c x i h)

off_duty : (s : Procs) (p x : ℕ) → is_ahead s p x ≡ false → on_duty s p x ≡ false
off_duty s p x a = (or_parts (on_duty s p x) (leads x p (s.queue (level s p))) a).0

nobody_passes : (x p : ℕ) (s : State) (cs : List Call) → Sound s → Ready s.procs p → is_ahead s.procs p x ≡ false → turns_before x p (moments s cs) ≡ 0
unfolding turns_before moments
nobody_passes x p s [] k o a = refl
nobody_passes x p s (c ∷ cs) k o a =
    let s' : State = (step s c).next in
    ⊎_elim (λ (e : is_over s'.procs p ≡ true). rw e refl)
    (λ (f : Fares (as_one (is_tick (kind c))) p s.procs s'.procs).
    let still = stays_behind p s c k o f x a in
    ⊎_elim (λ (e : is_over s'.procs p ≡ true). rw e refl)
    (λ (e : is_over s'.procs p ≡ false). rw (e, off_duty s'.procs p x still) (omega (arith, nobody_passes x p s' cs (step_sound s k c) f.ready still)))
    (cases_Bool (is_over s'.procs p)))
    (onward p s c k o)

-- those who have joined the rear meanwhile are not ahead of p, so none of them runs before it
rear_waits : (late : List ℕ) (p : ℕ) (s : State) (cs : List Call) → Sound s → Ready s.procs p → ((x : ℕ) → 1 ≤ occurs x late → is_ahead s.procs p x ≡ false) → overtaken late p (moments s cs) ≡ 0
unfolding overtaken moments
rear_waits late p s [] k o a = refl
rear_waits late p s (c ∷ cs) k o a =
    let s' : State = (step s c).next in
    let w : ℕ = s'.procs.running in
    let since : List ℕ = joined (moment s c (step s c)) ++ late in
    ⊎_elim (λ (e : is_over s'.procs p ≡ true). rw e refl)
    (λ (f : Fares (as_one (is_tick (kind c))) p s.procs s'.procs). ⊎_elim (λ (e : is_over s'.procs p ≡ true). rw e refl)
    (λ (e : is_over s'.procs p ≡ false).
    let none : (x : ℕ) → 1 ≤ occurs x since → is_ahead s'.procs p x ≡ false = λ x h. ⊎_elim
    (λ (i : 1 ≤ occurs x (joined (moment s c (step s c)))). joins_behind p s c k o e x i)
    (λ (i : occurs x (joined (moment s c (step s c))) < 1). stays_behind p s c k o f x (a x (omega (arith, occurs-append x (joined (moment s c (step s c))) late))))
    (le? 1 (occurs x (joined (moment s c (step s c))))) in
    let off : (leb 1 (occurs w since) && on_duty s'.procs p w) ≡ false = ⊎_elim
    (λ (i : 1 ≤ occurs w since). rw (off_duty s'.procs p w (none w i)) (and-false (leb 1 (occurs w since))))
    (λ (i : occurs w since < 1). rw (lt-leb 1 (occurs w since) i) refl)
    (le? 1 (occurs w since)) in
    rw (e, off) (omega (arith, rear_waits since p s' cs (step_sound s k c) f.ready none)))
    (cases_Bool (is_over s'.procs p)))
    (onward p s c k o)

pub fair : (s : State) (p : ℕ) (cs : List Call) → Sound s → Ready s.procs p → Fair s.settings.slice s.procs p (moments s cs)
fair s p cs k o = record {
  few_ticks = few_ticks p s cs k o;
  nobody_passes = λ x e. nobody_passes x p s cs k o e;
  rear_waits = rear_waits [] p s cs k o (λ x h. absurd (omega arith));
}
