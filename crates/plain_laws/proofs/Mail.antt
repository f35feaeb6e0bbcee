-- Who holds a buffer: messages that are queued, taken into a hand, and given back keep the mail sound.
-- Assumes nothing.
use Prim.Native.Nat.{ℕ, ◌+◌, ◌≤◌, ◌<◌}
use mathlib.Core.Path.{◌≡◌, ap, ◌∙◌, subst}
use mathlib.Core.Bool.{false}
use mathlib.Core.Logic.{⊎_elim}
use mathlib.Core.List.{List, [], ◌∷◌, ◌++◌}
use mathlib.Core.Option.{Option, none, some}
use native.Mathlib.Omega.{arith}
use lib.ListN.{length, length-append}
use lib.Seq.{length-take-le}
use borrow.Author.Tests.{eq-eqb, ne_eqb, ltb-false}
use Rattle.lists.specs.Lists.{put, occurs}
use Rattle.lists.proofs.Laws.{le?, put_same, put_other, put_cases, occurs-append, total_change, total-at}
use Rattle.lists.proofs.Those.{those-passes, those_fails, those_past, those_once, take-occurs}
use Rattle.plain.specs.Sizes.{processes, mailboxes, buffers, longest}
use Rattle.plain.specs.State.{Message, State, Each, InHand, buffers_of, in_hand, held, free, free_buffers}
use Rattle.plain.specs.Pages.{needed, lowest_free, too_few, Whole}
use Rattle.plain.specs.Sound.{Mail}

pub held-box : (box : ℕ → List Message) (hand : ℕ → Option Message) (m : ℕ) (l : List Message) (b : ℕ) → m < mailboxes
    → held (put box m l) hand b + occurs b (buffers_of (box m)) ≡ held box hand b + occurs b (buffers_of l)
unfolding held
held-box box hand m l b h =
    omega (
      arith,
      total_change mailboxes (λ i. occurs b (buffers_of (box i))) (λ i. occurs b (buffers_of (put box m l i))) m h
          (λ j d. ap (λ (a : List Message). occurs b (buffers_of a)) (put_other box m l j d)),
      ap (λ (a : List Message). occurs b (buffers_of a)) (put_same box m l),
    )

pub held-hand : (box : ℕ → List Message) (hand : ℕ → Option Message) (p : ℕ) (x : Option Message) (b : ℕ) → p < processes
    → held box (put hand p x) b + occurs b (in_hand (hand p)) ≡ held box hand b + occurs b (in_hand x)
unfolding held
held-hand box hand p x b h =
    omega (
      arith,
      total_change processes (λ i. occurs b (in_hand (hand i))) (λ i. occurs b (in_hand (put hand p x i))) p h
          (λ j d. ap (λ (a : Option Message). occurs b (in_hand a)) (put_other hand p x j d)),
      ap (λ (a : Option Message). occurs b (in_hand a)) (put_same hand p x),
    )

pub buffers_rear : (l : List Message) (x : Message) (b : ℕ) → occurs b (buffers_of (l ++ (x ∷ []))) ≡ occurs b (buffers_of l) + occurs b x.lies
buffers_rear [] x b = omega (arith, occurs-append b x.lies [])
buffers_rear (y ∷ l) x b = omega (arith, occurs-append b y.lies (buffers_of (l ++ (x ∷ []))), occurs-append b y.lies (buffers_of l), buffers_rear l x b)

-- how often a buffer is held as messages come and go
module _ (box : ℕ → List Message) (hand : ℕ → Option Message) (b : ℕ) where
  -- a message goes last into mailbox m
  pub held-queued : (m : ℕ) (x : Message) → m < mailboxes → held (put box m (box m ++ (x ∷ []))) hand b ≡ held box hand b + occurs b x.lies
  held-queued m x h = omega (arith, held-box box hand m (box m ++ (x ∷ [])) b h, buffers_rear (box m) x b)

  -- a message goes into the empty hand of p
  pub held-given : (p : ℕ) (x : Message) → p < processes → hand p ≡ none → held box (put hand p (some x)) b ≡ held box hand b + occurs b x.lies
  held-given p x h e = omega (arith, held-hand box hand p (some x) b h, ap (λ (a : Option Message). occurs b (in_hand a)) e)

  -- mailbox m loses its first message
  pub held_lost : (m : ℕ) (x : Message) (l : List Message) → m < mailboxes → box m ≡ x ∷ l → held (put box m l) hand b + occurs b x.lies ≡ held box hand b
  held_lost m x l h e = omega (arith, held-box box hand m l b h, ap (λ (a : List Message). occurs b (buffers_of a)) e, occurs-append b x.lies (buffers_of l))

  -- the hand of p loses its message
  pub held_let_go : (p : ℕ) (x : Message) → p < processes → hand p ≡ some x → held box (put hand p none) b + occurs b x.lies ≡ held box hand b
  held_let_go p x h e = omega (arith, held-hand box hand p none b h, ap (λ (a : Option Message). occurs b (in_hand a)) e)

-- what is said of each message of a mailbox, and of one more
pub each_rear : (P : Message → Type 0) (l : List Message) (x : Message) → Each P l → P x → Each P (l ++ (x ∷ []))
each_rear P [] x a h = (h, tt)
each_rear P (y ∷ l) x a h = (a.0, each_rear P l x a.1 h)

-- a message that may come in: its buffers are free, each once, and as many as it needs, and it is not too long
pub record Fits (box : ℕ → List Message) (hand : ℕ → Option Message) (x : Message) : Type 0 where
  pub once : (b : ℕ) → held box hand b + occurs b x.lies ≤ 1
  pub range : (b : ℕ) → buffers ≤ b → occurs b x.lies ≡ 0
  pub whole : Whole x

-- ---- the free buffers: each stands once among them, and no other number does

module _ (s : State) (b : ℕ) where
  pub free_there : b < buffers → held s.box s.hand b ≡ 0 → occurs b (free_buffers s) ≡ 1
  unfolding free_buffers
  free_there h z = those-passes b 0 buffers (free s) (omega arith) (omega arith) (eq-eqb (held s.box s.hand b) 0 z)

  pub held_not_free : 1 ≤ held s.box s.hand b → occurs b (free_buffers s) ≡ 0
  unfolding free_buffers
  held_not_free h = those_fails b 0 buffers (free s) (ne_eqb (held s.box s.hand b) 0 (omega arith))

  pub past_not_free : buffers ≤ b → occurs b (free_buffers s) ≡ 0
  unfolding free_buffers
  past_not_free h = those_past b 0 buffers (free s) h

  free_once : occurs b (free_buffers s) ≤ 1
  unfolding free_buffers
  free_once = those_once b 0 buffers (free s)

  -- those that are taken of them
  pub taken_once : (n : ℕ) → Mail s.settings.capacity s.box s.hand → held s.box s.hand b + occurs b (lowest_free n s) ≤ 1
  taken_once n k = ⊎_elim
      (λ (z : 1 ≤ held s.box s.hand b). omega (arith, k.held_once b, take-occurs b n (free_buffers s), held_not_free z))
      (λ (z : held s.box s.hand b < 1). omega (arith, take-occurs b n (free_buffers s), free_once))
      (le? 1 (held s.box s.hand b))

  pub taken_range : (n : ℕ) → buffers ≤ b → occurs b (lowest_free n s) ≡ 0
  taken_range n h = omega (arith, take-occurs b n (free_buffers s), past_not_free h)

-- what is held nowhere is in no mailbox and in no hand
module _ (box : ℕ → List Message) (hand : ℕ → Option Message) (b : ℕ) (none_holds : held box hand b ≡ 0) where
  pub not_queued : ((m : ℕ) → mailboxes ≤ m → buffers_of (box m) ≡ []) → (m : ℕ) → occurs b (buffers_of (box m)) ≡ 0
  unfolding held
  not_queued beyond m = ⊎_elim
      (λ h. ap (occurs b) (beyond m h))
      (λ h. omega (arith, total-at mailboxes (λ i. occurs b (buffers_of (box i))) m h))
      (le? mailboxes m)

  pub not_in_hand : ((p : ℕ) → processes ≤ p → hand p ≡ none) → (p : ℕ) → occurs b (in_hand (hand p)) ≡ 0
  unfolding held
  not_in_hand beyond p = ⊎_elim
      (λ h. ap (λ (a : Option Message). occurs b (in_hand a)) (beyond p h))
      (λ h. omega (arith, total-at processes (λ i. occurs b (in_hand (hand i))) p h))
      (le? processes p)

-- a message in as many of the lowest free buffers as it needs may come in
pub fits_free : (s : State) (bytes : List ℕ) → Mail s.settings.capacity s.box s.hand → too_few (needed (length bytes)) s ≡ false → length bytes ≤ longest
    → Fits s.box s.hand (record { lies = lowest_free (needed (length bytes)) s; bytes = bytes })
fits_free s bytes k e short =
    let n : ℕ = needed (length bytes) in
    record {
      once = λ b. taken_once s b n k;
      range = λ b h. taken_range s b n h;
      whole = record { short = short; many = length-take-le n (free_buffers s) (ltb-false (length (free_buffers s)) n e) };
    }

module _ (capacity : ℕ → ℕ) (box : ℕ → List Message) (hand : ℕ → Option Message) (k : Mail capacity box hand) where
  -- a message goes last into mailbox m
  pub mail_queue : (m : ℕ) (x : Message) → m < mailboxes → length (box m) < capacity m → Fits box hand x → Mail capacity (put box m (box m ++ (x ∷ []))) hand
  mail_queue m x hm room f =
      let l : List Message = box m ++ (x ∷ []) in
      let more : (b : ℕ) → held (put box m l) hand b ≡ held box hand b + occurs b x.lies = λ b. held-queued box hand b m x hm in
      record {
        held_once = λ b. omega (arith, more b, f.once b);
        no_more_buffers = λ b h. omega (arith, more b, k.no_more_buffers b h, f.range b h);
        queued = λ i. put_cases (Each Whole) box m l i (λ e. each_rear Whole (box m) x (k.queued m) f.whole) (λ d. k.queued i);
        all_in_hands = k.all_in_hands;
        at_most = λ i. put_cases (λ (a : List Message). length a ≤ capacity i) box m l i (λ e. rw e (omega (arith, length-append (box m) (x ∷ [])))) (λ d. k.at_most i);
        no_more_boxes = λ i h. put_other box m l i (omega arith) ∙ k.no_more_boxes i h;
      }

  -- a message goes into an empty hand
  pub mail-hand : (p : ℕ) (x : Message) → p < processes → hand p ≡ none → Fits box hand x → Mail capacity box (put hand p (some x))
  mail-hand p x hp empty f =
      let more : (b : ℕ) → held box (put hand p (some x)) b ≡ held box hand b + occurs b x.lies =
      λ b. held-given box hand b p x hp empty in
      record {
        held_once = λ b. omega (arith, more b, f.once b);
        no_more_buffers = λ b h. omega (arith, more b, k.no_more_buffers b h, f.range b h);
        queued = k.queued;
        all_in_hands = λ i. put_cases (InHand Whole) hand p (some x) i (λ e. f.whole) (λ d. k.all_in_hands i);
        at_most = k.at_most;
        no_more_boxes = k.no_more_boxes;
      }

  -- the first message of m goes into an empty hand
  pub mail-fetch : (m p : ℕ) (x : Message) (l : List Message) → m < mailboxes → p < processes → box m ≡ x ∷ l → hand p ≡ none → Mail capacity (put box m l) (put hand p (some x))
  mail-fetch m p x l hm hp e empty =
      let same : (b : ℕ) → held (put box m l) (put hand p (some x)) b ≡ held box hand b = λ b. held-given (put box m l) hand b p x hp empty ∙ held_lost box hand b m x l hm e in
      let was : Each Whole (x ∷ l) = subst (Each Whole) e (k.queued m) in
      record {
        held_once = λ b. omega (arith, same b, k.held_once b);
        no_more_buffers = λ b h. same b ∙ k.no_more_buffers b h;
        queued = λ i. put_cases (Each Whole) box m l i (λ d. was.1) (λ d. k.queued i);
        all_in_hands = λ i. put_cases (InHand Whole) hand p (some x) i (λ d. was.0) (λ d. k.all_in_hands i);
        at_most = λ i. put_cases (λ (a : List Message). length a ≤ capacity i) box m l i (λ d. rw d (omega (arith, k.at_most m, ap length e))) (λ d. k.at_most i);
        no_more_boxes = λ i h. put_other box m l i (omega arith) ∙ k.no_more_boxes i h;
      }

  -- a hand is emptied
  pub mail-drop : (p : ℕ) → p < processes → Mail capacity box (put hand p none)
  mail-drop p hp =
      let less : (b : ℕ) → held box (put hand p none) b ≤ held box hand b = λ b. omega (arith, held-hand box hand p none b hp) in
      record {
        held_once = λ b. omega (arith, less b, k.held_once b);
        no_more_buffers = λ b h. omega (arith, less b, k.no_more_buffers b h);
        queued = k.queued;
        all_in_hands = λ i. put_cases (InHand Whole) hand p none i (λ e. tt) (λ d. k.all_in_hands i);
        at_most = k.at_most;
        no_more_boxes = k.no_more_boxes;
      }

  -- a mailbox loses its first message
  pub mail_lose : (m : ℕ) (x : Message) (l : List Message) → m < mailboxes → box m ≡ x ∷ l → Mail capacity (put box m l) hand
  mail_lose m x l hm e =
      let less : (b : ℕ) → held (put box m l) hand b ≤ held box hand b = λ b. omega (arith, held_lost box hand b m x l hm e) in
      record {
        held_once = λ b. omega (arith, less b, k.held_once b);
        no_more_buffers = λ b h. omega (arith, less b, k.no_more_buffers b h);
        queued = λ i. put_cases (Each Whole) box m l i (λ d. (subst (Each Whole) e (k.queued m)).1) (λ d. k.queued i);
        all_in_hands = k.all_in_hands;
        at_most = λ i. put_cases (λ (a : List Message). length a ≤ capacity i) box m l i (λ d. rw d (omega (arith, k.at_most m, ap length e))) (λ d. k.at_most i);
        no_more_boxes = λ i h. put_other box m l i (omega arith) ∙ k.no_more_boxes i h;
      }

  -- a mailbox that is empty takes c messages from now on
  pub mail-allotted : (m c : ℕ) → box m ≡ [] → Mail (put capacity m c) box hand
  mail-allotted m c e = record {
    held_once = k.held_once;
    no_more_buffers = k.no_more_buffers;
    queued = k.queued;
    all_in_hands = k.all_in_hands;
    at_most = λ i. put_cases (λ (a : ℕ). length (box i) ≤ a) capacity m c i (λ d. rw (d, e) (omega arith)) (λ d. k.at_most i);
    no_more_boxes = k.no_more_boxes;
  }
