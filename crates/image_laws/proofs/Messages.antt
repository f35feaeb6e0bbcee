-- All messages of a state in one list: what is said of each of them, where they lie, and where they begin.
-- Assumes nothing.
use Prim.Native.Nat.{ℕ, zero, suc, ◌+◌, ◌≤◌, ◌<◌}
use mathlib.Core.Path.{◌≡◌, refl, sym, ap, ◌∙◌, subst}
use mathlib.Core.Logic.{⊎_elim}
use mathlib.Core.List.{List, [], ◌∷◌, ◌++◌}
use mathlib.Core.Option.{Option, none, some}
use native.Mathlib.Omega.{arith}
use Rattle.lists.specs.Lists.{occurs, total}
use Rattle.std.proofs.lemmas.Bool.{cases_eq}
use Rattle.lists.proofs.Laws.{le?, occurs-append, total-same, total_zero, total-at}
use Rattle.plain.specs.Sizes.{processes, mailboxes}
use Rattle.plain.specs.State.{Message, Each, InHand, buffers_of, in_hand, held}
use Rattle.mail.specs.Carries.{firsts, first_in, NoneAt}
use Rattle.mail.proofs.Held.{firsts-append}

-- those of the first n lists
unfoldable pub gathered : ℕ → (ℕ → List Message) → List Message
gathered zero g = []
gathered (suc n) g = g n ++ gathered n g

abbrev listed : Option Message → List Message
listed none = []
listed (some x) = x ∷ []

abbrev queued : (ℕ → List Message) → List Message
queued box = gathered mailboxes box

abbrev handed : (ℕ → Option Message) → List Message
handed hand = gathered processes (λ p. listed (hand p))

unfoldable pub messages : (ℕ → List Message) → (ℕ → Option Message) → List Message
messages box hand = queued box ++ handed hand

-- ---- what is said of each

module _ (P : Message → Type 0) where
  each_both : (l r : List Message) → Each P l → Each P r → Each P (l ++ r)
  each_both [] r a b = b
  each_both (x ∷ l) r a b = (a.0, each_both l r a.1 b)

  each_parts : (l r : List Message) → Each P (l ++ r) → Each P l × Each P r
  each_parts [] r a = (tt, a)
  each_parts (x ∷ l) r a = let p = each_parts l r a.1 in ((a.0, p.0), p.1)

  each-gathered : (n : ℕ) (g : ℕ → List Message) → ((i : ℕ) → Each P (g i)) → Each P (gathered n g)
  unfolding gathered
  each-gathered zero g a = tt
  each-gathered (suc n) g a = each_both (g n) (gathered n g) (a n) (each-gathered n g a)

  each_part : (n : ℕ) (g : ℕ → List Message) → Each P (gathered n g) → (i : ℕ) → i < n → Each P (g i)
  unfolding gathered
  each_part zero g a i h = absurd (omega arith)
  each_part (suc n) g a i h =
      let p = each_parts (g n) (gathered n g) a in
      ⊎_elim (λ (e : i ≡ n). rw e p.0) (λ d. each_part n g p.1 i (omega arith)) (cases_eq i n)

  each-listed : (h : Option Message) → InHand P h → Each P (listed h)
  each-listed none a = tt
  each-listed (some x) a = (a, tt)

  in_listed : (h : Option Message) → Each P (listed h) → InHand P h
  in_listed none a = tt
  in_listed (some x) a = a.0

  module _ (box : ℕ → List Message) (hand : ℕ → Option Message) where
    pub each-message : ((m : ℕ) → Each P (box m)) → ((p : ℕ) → InHand P (hand p)) → Each P (messages box hand)
    unfolding messages
    each-message q h = each_both (queued box) (handed hand) (each-gathered mailboxes box q) (each-gathered processes (λ p. listed (hand p)) (λ p. each-listed (hand p) (h p)))

    module _ (a : Each P (messages box hand)) where
      pub each-queued : ((m : ℕ) → mailboxes ≤ m → box m ≡ []) → (m : ℕ) → Each P (box m)
      unfolding messages
      each-queued beyond m = ⊎_elim
          (λ h. subst (Each P) (sym (beyond m h)) tt)
          (λ h. each_part mailboxes box (each_parts (queued box) (handed hand) a).0 m h)
          (le? mailboxes m)

      pub each_in_hand : ((p : ℕ) → processes ≤ p → hand p ≡ none) → (p : ℕ) → InHand P (hand p)
      unfolding messages
      each_in_hand beyond p = ⊎_elim
          (λ h. subst (InHand P) (sym (beyond p h)) tt)
          (λ h. in_listed (hand p) (each_part processes (λ i. listed (hand i)) (each_parts (queued box) (handed hand) a).1 p h))
          (le? processes p)

-- ---- how often a number stands among them

-- c is a sum over the messages of a list
module _ (c : List Message → ℕ) (nothing : c [] ≡ 0) (both : (l r : List Message) → c (l ++ r) ≡ c l + c r) where
  gathered-sum : (n : ℕ) (g : ℕ → List Message) → c (gathered n g) ≡ total n (λ i. c (g i))
  unfolding gathered total
  gathered-sum zero g = nothing
  gathered-sum (suc n) g = omega (arith, both (g n) (gathered n g), gathered-sum n g)

  messages-sum : (box : ℕ → List Message) (hand : ℕ → Option Message) → c (messages box hand) ≡ total mailboxes (λ m. c (box m)) + total processes (λ p. c (listed (hand p)))
  unfolding messages
  messages-sum box hand = omega (arith, both (queued box) (handed hand), gathered-sum mailboxes box, gathered-sum processes (λ p. listed (hand p)))

module _ (box : ℕ → List Message) (hand : ℕ → Option Message) (b : ℕ) where
  both_lie : (l r : List Message) → occurs b (buffers_of (l ++ r)) ≡ occurs b (buffers_of l) + occurs b (buffers_of r)
  both_lie [] r = omega arith
  both_lie (x ∷ l) r = omega (arith, both_lie l r, occurs-append b x.lies (buffers_of (l ++ r)), occurs-append b x.lies (buffers_of l))

  hand_lies : (h : Option Message) → occurs b (buffers_of (listed h)) ≡ occurs b (in_hand h)
  hand_lies none = refl
  hand_lies (some x) = omega (arith, occurs-append b x.lies [])

  -- they lie in b as often as it is held
  pub messages-held : occurs b (buffers_of (messages box hand)) ≡ held box hand b
  unfolding held
  messages-held =
      omega (
        arith,
        messages-sum (λ l. occurs b (buffers_of l)) refl both_lie box hand,
        total-same processes (λ p. occurs b (buffers_of (listed (hand p)))) (λ p. occurs b (in_hand (hand p))) (λ p h. hand_lies (hand p)),
      )

  both_begin : (l r : List Message) → occurs b (firsts (l ++ r)) ≡ occurs b (firsts l) + occurs b (firsts r)
  both_begin l r = ap (occurs b) (firsts-append l r) ∙ occurs-append b (firsts l) (firsts r)

  hand-begins : (h : Option Message) → occurs b (firsts (listed h)) ≡ occurs b (first_in h)
  hand-begins none = refl
  hand-begins (some x) = refl

  -- none of them begins in b where none does in any mailbox and any hand
  pub none_begins : NoneAt box hand b → occurs b (firsts (messages box hand)) ≡ 0
  none_begins z =
      omega (
        arith,
        messages-sum (λ l. occurs b (firsts l)) refl both_begin box hand,
        total_zero mailboxes (λ m. occurs b (firsts (box m))) (λ m h. z.queued m),
        total_zero processes (λ p. occurs b (firsts (listed (hand p)))) (λ p h. hand-begins (hand p) ∙ z.all_in_hands p),
      )

  pub none_at : ((m : ℕ) → mailboxes ≤ m → box m ≡ []) → ((p : ℕ) → processes ≤ p → hand p ≡ none) → occurs b (firsts (messages box hand)) ≡ 0 → NoneAt box hand b
  none_at no_box no-hand z =
      let sum = messages-sum (λ l. occurs b (firsts l)) refl both_begin box hand in
      record {
        queued = λ m. ⊎_elim
            (λ h. ap (λ (l : List Message). occurs b (firsts l)) (no_box m h))
            (λ h. omega (arith, sum, total-at mailboxes (λ i. occurs b (firsts (box i))) m h))
            (le? mailboxes m);
        all_in_hands = λ p. ⊎_elim
            (λ h. ap (λ (o : Option Message). occurs b (first_in o)) (no-hand p h))
            (λ h. omega (arith, sum, total-at processes (λ i. occurs b (firsts (listed (hand i)))) p h, hand-begins (hand p)))
            (le? processes p);
      }
