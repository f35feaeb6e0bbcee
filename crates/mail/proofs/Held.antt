-- The first buffers of messages, and those that are held.
-- Assumes nothing.
use Prim.Native.Nat.{ℕ, ◌+◌, ◌≤◌}
use mathlib.Core.Path.{◌≡◌, refl, sym, ap, ◌∙◌, subst}
use mathlib.Core.Logic.{◌≢◌, ⊎_elim}
use mathlib.Core.List.{List, [], ◌∷◌, ◌++◌}
use mathlib.Core.Option.{Option, none, some}
use native.Mathlib.Omega.{arith}
use lib.ListN.{length, get_or}
use Rattle.lists.specs.Lists.{put, one, occurs}
use Rattle.std.proofs.lemmas.Bool.{cases_eq}
use Rattle.lists.proofs.Laws.{put_same, put_other, one_same, one_other, occurs-append, total_zero}
use Rattle.plain.specs.Pages.{needed}
use Rattle.plain.specs.Sizes.{processes, mailboxes}
use Rattle.plain.specs.State.{Message, Each, InHand, buffers_of, in_hand, held}
use Rattle.mail.specs.Carries.{first_of, firsts, first_in, Has, NoneAt}

pub firsts-append : (l r : List Message) → firsts (l ++ r) ≡ firsts l ++ firsts r
firsts-append [] r = refl
firsts-append (x ∷ l) r = ap (λ (a : List ℕ). first_of x ∷ a) (firsts-append l r)

pub firsts_none : (l : List Message) → firsts l ≡ [] → l ≡ []
firsts_none [] e = refl
firsts_none (x ∷ l) e = absurd (omega (arith, ap length e))

pub held_nowhere : (b : ℕ) → held (λ m. []) (λ p. none) b ≡ 0
unfolding held
held_nowhere b = omega (arith, total_zero mailboxes (λ m. 0) (λ m h. refl), total_zero processes (λ p. 0) (λ p h. refl))

pub head_there : (l : List ℕ) → 1 ≤ length l → 1 ≤ occurs (get_or l 0 0) l
head_there [] z = absurd (omega arith)
head_there (y ∷ l) z = omega (arith, one_same y)

-- who begins somewhere lies there
module _ (lengths chain : List ℕ) where
  pub first_in_lem : {x : Message} → Has lengths chain x → 1 ≤ occurs (first_of x) x.lies
  unfolding needed
  first_in_lem {x} h = head_there x.lies (omega (arith, h.many))

  first_once : (b : ℕ) {x : Message} → Has lengths chain x → occurs b (first_of x ∷ []) ≤ occurs b x.lies
  unfolding needed
  first_once b {x} h = go x.lies (omega (arith, h.many))
    where
      go : (l : List ℕ) → 1 ≤ length l → occurs b (get_or l 0 0 ∷ []) ≤ occurs b l
      go [] z = absurd (omega arith)
      go (y ∷ l) z = omega arith

  pub firsts-held : (b : ℕ) (l : List Message) → Each (Has lengths chain) l → occurs b (firsts l) ≤ occurs b (buffers_of l)
  firsts-held b [] a = omega arith
  firsts-held b (x ∷ l) a = omega (arith, first_once b a.0, firsts-held b l a.1, occurs-append b x.lies (buffers_of l))

  pub first-held : (b : ℕ) (h : Option Message) → InHand (Has lengths chain) h → occurs b (first_in h) ≤ occurs b (in_hand h)
  first-held b none a = omega arith
  first-held b (some x) a = first_once b a

-- ---- where no message begins, as one comes or goes

module _ (box : ℕ → List Message) (hand : ℕ → Option Message) (b : ℕ) (x : Message) where
  -- x goes last into mailbox m
  pub none_queued : (m : ℕ) → NoneAt (put box m (box m ++ (x ∷ []))) hand b → NoneAt box hand b × (b ≢ first_of x)
  none_queued m z =
      let l : List Message = box m ++ (x ∷ []) in
      let here : occurs b (firsts (box m)) + occurs b (first_of x ∷ []) ≡ 0 =
      sym (occurs-append b (firsts (box m)) (first_of x ∷ [])) ∙ (ap (occurs b) (sym (firsts-append (box m) (x ∷ []))) ∙ subst (λ (a : List Message). occurs b (firsts a) ≡ 0) (put_same box m l) (z.queued m)) in (
        record {
          queued = λ i. ⊎_elim
              (λ (e : i ≡ m). rw e (omega arith))
              (λ (d : i ≢ m). subst (λ (a : List Message). occurs b (firsts a) ≡ 0) (put_other box m l i d) (z.queued i))
              (cases_eq i m);
          all_in_hands = z.all_in_hands;
        },
        λ e. omega (arith, subst (λ (y : ℕ). one y b ≡ 1) e (one_same b)),
      )

  -- mailbox m loses x, its first
  pub none_lost : (m : ℕ) (l : List Message) → box m ≡ x ∷ l → NoneAt (put box m l) hand b → b ≢ first_of x → NoneAt box hand b
  none_lost m l e z d = record {
    queued = λ i. ⊎_elim
        (λ (c : i ≡ m). rw (c, e) (omega (arith, one_other (first_of x) b (λ y. d (sym y)), subst (λ (a : List Message). occurs b (firsts a) ≡ 0) (put_same box m l) (z.queued m))))
        (λ (c : i ≢ m). subst (λ (a : List Message). occurs b (firsts a) ≡ 0) (put_other box m l i c) (z.queued i))
        (cases_eq i m);
    all_in_hands = z.all_in_hands;
  }

  -- x goes into the empty hand of p
  pub none_given : (p : ℕ) → hand p ≡ none → NoneAt box (put hand p (some x)) b → NoneAt box hand b × (b ≢ first_of x)
  none_given p e z = (
    record {
      queued = z.queued;
      all_in_hands = λ i. ⊎_elim
          (λ (c : i ≡ p). rw (c, e) refl)
          (λ (c : i ≢ p). subst (λ (a : Option Message). occurs b (first_in a) ≡ 0) (put_other hand p (some x) i c) (z.all_in_hands i))
          (cases_eq i p);
    },
    λ c. omega (arith, subst (λ (y : ℕ). one y b ≡ 1) c (one_same b), subst (λ (a : Option Message). occurs b (first_in a) ≡ 0) (put_same hand p (some x)) (z.all_in_hands p)),
  )

  -- the hand of p loses x
  pub none_let_go : (p : ℕ) → hand p ≡ some x → NoneAt box (put hand p none) b → b ≢ first_of x → NoneAt box hand b
  none_let_go p e z d = record {
    queued = z.queued;
    all_in_hands = λ i. ⊎_elim
        (λ (c : i ≡ p). rw (c, e) (omega (arith, one_other (first_of x) b (λ y. d (sym y)))))
        (λ (c : i ≢ p). subst (λ (a : Option Message). occurs b (first_in a) ≡ 0) (put_other hand p none i c) (z.all_in_hands i))
        (cases_eq i p);
  }
