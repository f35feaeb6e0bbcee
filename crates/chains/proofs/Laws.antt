-- What a table leads to as buffers are linked up, and linked to themselves.
-- Assumes nothing.
use Prim.Native.Nat.{ℕ, zero, suc, ◌≤◌, ◌<◌}
use mathlib.Core.Path.{◌≡◌, refl, sym, ap, ◌∙◌, subst}
use mathlib.Core.Logic.{◌≢◌, ⊎_elim}
use mathlib.Core.List.{List, [], ◌∷◌}
use native.Mathlib.Omega.{arith}
use lib.ListN.{length, get_or, set, length-set}
use lib.Seq.{get_or-set_same, get_or-set_other}
use Rattle.lists.specs.Lists.{one, occurs}
use Rattle.std.proofs.lemmas.Bool.{cases_eq}
use Rattle.lists.proofs.Laws.{one_same, one_other}
use Rattle.bits.specs.Word.{width}
use Rattle.rings.specs.Moves.{fresh}
use Rattle.rings.proofs.Looks.{fresh_rings}
use Rattle.chains.specs.Led.{after, Led, none, last, on}
use Rattle.chains.specs.Links.{run, own, link_up, alone}

-- ---- ways

module _ (t : List ℕ) where
  pub led_run : {b : ℕ} {l : List ℕ} → Led t b l → l ≡ run t (length l) b
  unfolding run
  led_run none = refl
  led_run (last e) = refl
  led_run (on {b = b} d) = ap (λ (r : List ℕ). b ∷ r) (led_run d)

  pub run_length : (n b : ℕ) → length (run t n b) ≡ n
  unfolding run
  run_length zero b = refl
  run_length (suc n) b = ap suc (run_length n (after t b))

led_head : {t : List ℕ} {b x : ℕ} {l : List ℕ} → Led t b (x ∷ l) → b ≡ x
led_head (last e) = refl
led_head (on d) = refl

module _ (t u : List ℕ) where
  -- a way along which nothing changed
  pub led_same : {b : ℕ} {l : List ℕ} → Led t b l → ((p : ℕ) → 1 ≤ occurs p l → after u p ≡ after t p) → Led u b l
  led_same none k = none
  led_same (last {b = b} e) k = last (k b (omega (arith, one_same b)) ∙ e)
  led_same (on {b = b} {x = x} {l = l} d) k =
      on (subst (λ (z : ℕ). Led u z (x ∷ l)) (sym (k b (omega (arith, one_same b)))) (led_same d (λ p o. k p (omega arith))))

  -- one list is led to by the same links
  pub one_led : {b c : ℕ} {l : List ℕ} → Led t b l → Led u c l → (p : ℕ) → 1 ≤ occurs p l → after t p ≡ after u p
  one_led none none p o = absurd (omega arith)
  one_led (last {b = b} e) (last g) p o = ⊎_elim (λ (d : b ≡ p). rw (← d) (e ∙ sym g)) (λ (d : b ≢ p). absurd (omega (arith, one_other b p d))) (cases_eq b p)
  one_led (on {b = b} d) (on g) p o = ⊎_elim (λ (e : b ≡ p). rw (← e) (led_head d ∙ sym (led_head g))) (λ (e : b ≢ p). one_led d g p (omega (arith, one_other b p e))) (cases_eq b p)

-- ---- linked up

-- p is not the first of a list that it does not stand in
absent : (p x : ℕ) (l : List ℕ) → occurs p (x ∷ l) ≡ 0 → p ≢ x
absent p x l o e = omega (arith, subst (λ (y : ℕ). one y p ≡ 1) e (one_same p))

pub linked-length : (t l : List ℕ) → length (link_up t l) ≡ length t
unfolding link_up
linked-length t [] = refl
linked-length t (x ∷ l) = linked-length (set t x (get_or l 0 x)) l ∙ length-set t x (get_or l 0 x)

pub linked_other : (t l : List ℕ) (p : ℕ) → occurs p l ≡ 0 → after (link_up t l) p ≡ after t p
unfolding link_up
linked_other t [] p o = refl
linked_other t (x ∷ l) p o = linked_other (set t x (get_or l 0 x)) l p (omega arith) ∙ get_or-set_other t x p (get_or l 0 x) 0 (absent p x l o)

-- each of l once, and below n
abbrev pub Once : ℕ → List ℕ → Type 0
Once n l = ((p : ℕ) → occurs p l ≤ 1) × ((p : ℕ) → 1 ≤ occurs p l → p < n)

pub linked_led : (t : List ℕ) (x : ℕ) (l : List ℕ) → Once (length t) (x ∷ l) → Led (link_up t (x ∷ l)) x (x ∷ l)
unfolding link_up
linked_led t x [] h = last (get_or-set_same t x x 0 (h.1 x (omega (arith, one_same x))))
linked_led t x (y ∷ l) h =
    let s : List ℕ = set t x y in
    let u : List ℕ = link_up s (y ∷ l) in
    let e : after u x ≡ y = linked_other s (y ∷ l) x (omega (arith, h.0 x, one_same x)) ∙ get_or-set_same t x y 0 (h.1 x (omega (arith, one_same x))) in
    on (subst (λ (z : ℕ). Led u z (y ∷ l)) (sym e) (linked_led s y l (λ p. omega (arith, h.0 p), λ p o. omega (arith, h.1 p (omega arith), length-set t x y))))

-- the same of a list that has a first one
pub linked_list : (t l : List ℕ) → 1 ≤ length l → Once (length t) l → Led (link_up t l) (get_or l 0 0) l
linked_list t [] z h = absurd (omega arith)
linked_list t (x ∷ l) z h = linked_led t x l h

-- ---- linked to themselves

pub alone-length : (t l : List ℕ) → length (alone t l) ≡ length t
unfolding alone
alone-length t [] = refl
alone-length t (x ∷ l) = alone-length (set t x x) l ∙ length-set t x x

pub alone_other : (t l : List ℕ) (p : ℕ) → occurs p l ≡ 0 → after (alone t l) p ≡ after t p
unfolding alone
alone_other t [] p o = refl
alone_other t (x ∷ l) p o = alone_other (set t x x) l p (omega arith) ∙ get_or-set_other t x p x 0 (absent p x l o)

alone_still : (t l : List ℕ) (p : ℕ) → p < length t → after t p ≡ p → after (alone t l) p ≡ p
unfolding alone
alone_still t [] p h e = e
alone_still t (x ∷ l) p h e = alone_still (set t x x) l p (omega (arith, length-set t x x))
    (⊎_elim (λ (d : p ≡ x). rw (← d) (get_or-set_same t p p 0 h)) (λ (d : p ≢ x). get_or-set_other t x p x 0 d ∙ e) (cases_eq p x))

pub alone-own : (t l : List ℕ) (p : ℕ) → 1 ≤ occurs p l → p < length t → after (alone t l) p ≡ p
unfolding alone
alone-own t [] p o h = absurd (omega arith)
alone-own t (x ∷ l) p o h = ⊎_elim
    (λ (d : x ≡ p). alone_still (set t x x) l p (omega (arith, length-set t x x)) (rw d (get_or-set_same t p p 0 h)))
    (λ (d : x ≢ p). alone-own (set t x x) l p (omega (arith, one_other x p d)) (omega (arith, length-set t x x)))
    (cases_eq x p)

-- ---- every buffer linked to itself

pub own-after : (b : ℕ) → b < width → after own b ≡ b
unfolding fresh
own-after b h = ((fresh_rings width 0).alone b h (λ q. refl)).to

pub own-length : length own ≡ width
unfolding fresh
own-length = (fresh_rings width 0).nexts
