-- The parts of what a struct carries, as one hand or the buffers of one message change: the hands, the bits, the lengths, the links.
-- Assumes nothing.
use Prim.Native.Nat.{ℕ, ◌≤◌, ◌<◌}
use mathlib.Core.Path.{◌≡◌, refl, sym, ap, ◌∙◌, subst, fun_ext}
use mathlib.Core.Bool.{Bool, true, false, not}
use mathlib.Core.Logic.{⊎_elim}
use mathlib.Core.List.{List, [], ◌∷◌}
use mathlib.Core.Option.{Option, none, some}
use native.Mathlib.Omega.{arith}
use lib.ListN.{length, get_or, set}
use lib.Seq.{get_or-set_same, get_or-set_other}
use lib.Dec.{eqb}
use Rattle.std.specs.Prelude.{if◌then◌else◌}
use Rattle.lists.specs.Lists.{put, occurs}
use Rattle.lists.proofs.Laws.{le?, put_other, put_cases, occurs-append}
use Rattle.bits.specs.Word.{width, word, bits}
use Rattle.bits.proofs.Words.{word_same, word_put}
use Rattle.chains.specs.Led.{after}
use Rattle.chains.specs.Links.{puts}
use Rattle.chains.proofs.Laws.{led_same}
use Rattle.chains.proofs.Words.{puts_in, puts_out, word-puts}
use Rattle.plain.specs.Sizes.{processes}
use Rattle.plain.specs.State.{Message, Each, InHand, buffers_of, in_hand, held}
use Rattle.plain.specs.Calls.{is_empty}
use Rattle.mail.specs.Carries.{first_of, firsts, buffer_in, is_full, is_free, Has}
use Rattle.mail.proofs.Held.{first_in_lem}

-- g of f with v at i is g of f, with g of v at i
put_through : {A B : Type 0} (g : A → B) (f : ℕ → A) (i : ℕ) (v : A) (j : ℕ) → put (λ a. g (f a)) i (g v) j ≡ g (put f i v j)
put_through {A} {B} g f i v j = go (eqb j i)
  where
    go : (t : Bool) → (if t then g v else g (f j)) ≡ g (if t then v else f j)
    go true = refl
    go false = refl

-- f has v at i already
pub put_kept : {A : Type 0} (f : ℕ → A) (i : ℕ) (v : A) → f i ≡ v → f ≡ put f i v
put_kept {A} f i v e = fun_ext (λ j. put_cases (λ (a : A). f j ≡ a) f i v j (λ d. ap f d ∙ e) (λ d. refl))

pub firsts_put : (box : ℕ → List Message) (m : ℕ) (l : List Message) → put (λ i. firsts (box i)) m (firsts l) ≡ (λ i. firsts (put box m l i))
firsts_put box m l = fun_ext (put_through firsts box m l)

-- ---- the hand of p becomes h

module _ (hand : ℕ → Option Message) (p : ℕ) (h : Option Message) where
  pub hands_put : (t : List ℕ) → p < length t → ((i : ℕ) → get_or t i 0 ≡ buffer_in (hand i)) → (i : ℕ) → get_or (set t p (buffer_in h)) i 0 ≡ buffer_in (put hand p h i)
  hands_put t b k i = put_cases (λ (a : Option Message). get_or (set t p (buffer_in h)) i 0 ≡ buffer_in a) hand p h i
      (λ e. rw e (get_or-set_same t p (buffer_in h) 0 b))
      (λ d. get_or-set_other t p i (buffer_in h) 0 d ∙ k i)

  pub no_more_put : p < processes → ((i : ℕ) → processes ≤ i → hand i ≡ none) → (i : ℕ) → processes ≤ i → put hand p h i ≡ none
  no_more_put b k i c = put_other hand p h i (omega arith) ∙ k i c

  pub full_put : {w : ℕ} → w ≡ word width (is_full hand) → word width (put (bits w) p (not (is_empty h))) ≡ word width (is_full (put hand p h))
  full_put e =
      let now : Bool = not (is_empty h) in
      word_put width (is_full hand) e p now
      ∙ word_same width (put (is_full hand) p now) (is_full (put hand p h)) (λ i b. put_through (λ (a : Option Message). not (is_empty a)) hand p h i)

-- ---- buffers l come to be held, or to be free, and no other

-- each of l is now held, or none of them is
pub free_put : (box box' : ℕ → List Message) (hand hand' : ℕ → Option Message) (l : List ℕ) (v : Bool) {w : ℕ} → w ≡ word width (is_free box hand)
    → ((p : ℕ) → 1 ≤ occurs p l → is_free box' hand' p ≡ v) → ((p : ℕ) → occurs p l ≡ 0 → held box' hand' p ≡ held box hand p)
    → word width (puts (bits w) l v) ≡ word width (is_free box' hand')
free_put box box' hand hand' l v e there same =
    word-puts (is_free box hand) e l v
    ∙ word_same width (puts (is_free box hand) l v) (is_free box' hand')
    (λ p h. ⊎_elim
    (λ (o : 1 ≤ occurs p l). puts_in (is_free box hand) l v p o ∙ sym (there p o))
    (λ (o : occurs p l < 1). let z : occurs p l ≡ 0 = omega arith in puts_out (is_free box hand) l v p z ∙ ap (λ (n : ℕ). eqb n 0) (sym (same p z)))
    (le? 1 (occurs p l)))

-- ---- the messages that lie elsewhere

-- none of l stands in r
abbrev pub Apart : List ℕ → List ℕ → Type 0
Apart l r = (p : ℕ) → 1 ≤ occurs p l → occurs p r ≡ 0

apart_back : (l r : List ℕ) → Apart l r → (p : ℕ) → 1 ≤ occurs p r → occurs p l ≡ 0
apart_back l r a p o = ⊎_elim (λ (h : 1 ≤ occurs p l). absurd (omega (arith, a p h))) (λ (h : occurs p l < 1). omega arith) (le? 1 (occurs p l))

-- an entry at one of l leaves the others
pub set_off : (t : List ℕ) (b n : ℕ) (l : List ℕ) → 1 ≤ occurs b l → (p : ℕ) → occurs p l ≡ 0 → get_or (set t b n) p 0 ≡ get_or t p 0
set_off t b n l o p z = get_or-set_other t b p n 0 (λ e. omega (arith, subst (λ (x : ℕ). 1 ≤ occurs x l) (sym e) o))

-- lengths and links stay but at l: what lies elsewhere is had as before
module _ (lengths lengths' chain chain' l : List ℕ) (same-lengths : (p : ℕ) → occurs p l ≡ 0 → get_or lengths' p 0 ≡ get_or lengths p 0)
    (same-links : (p : ℕ) → occurs p l ≡ 0 → after chain' p ≡ after chain p) where
  has_kept : (x : Message) → Apart l x.lies → Has lengths chain x → Has lengths' chain' x
  has_kept x a h =
      let off = apart_back l x.lies a in
      record {
        long = same-lengths (first_of x) (off (first_of x) (first_in_lem lengths chain h)) ∙ h.long;
        led = led_same chain chain' h.led (λ p o. same-links p (off p o));
        many = h.many;
      }

  pub each_kept : (r : List Message) → Apart l (buffers_of r) → Each (Has lengths chain) r → Each (Has lengths' chain') r
  each_kept [] a h = tt
  each_kept (x ∷ r) a h = (
    has_kept x (λ p o. omega (arith, a p o, occurs-append p x.lies (buffers_of r))) h.0,
    each_kept r (λ p o. omega (arith, a p o, occurs-append p x.lies (buffers_of r))) h.1,
  )

  pub hand_kept : (h : Option Message) → Apart l (in_hand h) → InHand (Has lengths chain) h → InHand (Has lengths' chain') h
  hand_kept none a h = tt
  hand_kept (some x) a h = has_kept x a h
