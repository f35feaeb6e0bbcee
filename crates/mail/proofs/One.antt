-- One struct for one plain mail: whatever carries the same mailboxes and hands is the same.
-- Assumes nothing.
use Prim.Native.Nat.{ℕ, ◌≤◌, ◌<◌}
use mathlib.Core.Path.{◌≡◌, sym, ap, ◌∙◌}
use mathlib.Core.Logic.{◌≢◌, ⊎_elim}
use mathlib.Core.List.{List, [], ◌∷◌}
use mathlib.Core.Option.{Option, none, some}
use native.Mathlib.Omega.{arith}
use lib.ListN.{get_or}
use lib.Seq.{ext_get_or}
use Rattle.lists.specs.Lists.{occurs}
use Rattle.std.proofs.lemmas.Bool.{cases_eq}
use Rattle.lists.proofs.Laws.{le?, one_other, occurs-append, total_zero}
use Rattle.rings.proofs.Laws.{found, one_table}
use Rattle.rings.proofs.Units.{known}
use Rattle.chains.specs.Led.{after}
use Rattle.chains.proofs.Laws.{one_led}
use Rattle.sizes.specs.declared.Bid.{Bid}
use Rattle.boxes.specs.Box.{num}
use Rattle.boxes.proofs.Laws.{one-boxes}
use Rattle.plain.specs.Sizes.{processes, mailboxes, buffers}
use Rattle.plain.specs.State.{Message, Each, InHand, buffers_of, in_hand, held}
use Rattle.mail.specs.declared.Mail.{Mail}
use Rattle.mail.specs.Carries.{Numbers, numbers, first_of, firsts, first_in, Has, NoneAt, Carries}

-- two tables of lengths agree where a message begins, and two of links where one lies
module _ (t u c d : List ℕ) (b : ℕ) where
  agree_first : (x : Message) → Has t c x → Has u d x → 1 ≤ occurs b (first_of x ∷ []) → get_or t b 0 ≡ get_or u b 0
  agree_first x h g o = ⊎_elim
      (λ (e : first_of x ≡ b). rw (← e) (h.long ∙ sym g.long))
      (λ (e : first_of x ≢ b). absurd (omega (arith, one_other (first_of x) b e)))
      (cases_eq (first_of x) b)

  agree_queued : (l : List Message) → Each (Has t c) l → Each (Has u d) l → 1 ≤ occurs b (firsts l) → get_or t b 0 ≡ get_or u b 0
  agree_queued [] h g o = absurd (omega arith)
  agree_queued (x ∷ l) h g o = ⊎_elim
      (λ (e : 1 ≤ occurs b (first_of x ∷ [])). agree_first x h.0 g.0 e)
      (λ (e : occurs b (first_of x ∷ []) < 1). agree_queued l h.1 g.1 (omega arith))
      (le? 1 (occurs b (first_of x ∷ [])))

  agree_in_hand : (o : Option Message) → InHand (Has t c) o → InHand (Has u d) o → 1 ≤ occurs b (first_in o) → get_or t b 0 ≡ get_or u b 0
  agree_in_hand none h g o = absurd (omega arith)
  agree_in_hand (some x) h g o = agree_first x h g o

  links-queued : (l : List Message) → Each (Has t c) l → Each (Has u d) l → 1 ≤ occurs b (buffers_of l) → after c b ≡ after d b
  links-queued [] h g o = absurd (omega arith)
  links-queued (x ∷ l) h g o = ⊎_elim
      (λ (e : 1 ≤ occurs b x.lies). one_led c d h.0.led g.0.led b e)
      (λ (e : occurs b x.lies < 1). links-queued l h.1 g.1 (omega (arith, occurs-append b x.lies (buffers_of l))))
      (le? 1 (occurs b x.lies))

  links_in_hand : (o : Option Message) → InHand (Has t c) o → InHand (Has u d) o → 1 ≤ occurs b (in_hand o) → after c b ≡ after d b
  links_in_hand none h g o = absurd (omega arith)
  links_in_hand (some x) h g o = one_led c d h.led g.led b o

module _ {k k' : Numbers} {box : ℕ → List Message} {hand : ℕ → Option Message} (K : Carries k box hand) (K' : Carries k' box hand) where
  agree_at : (b : ℕ) → get_or k.length b 0 ≡ get_or k'.length b 0
  agree_at b = ⊎_elim
      (λ r. agree_queued k.length k'.length k.chain k'.chain b (box r.0) (K.queued r.0) (K'.queued r.0) r.2)
      (λ (q : (m : ℕ) → m < mailboxes → occurs b (firsts (box m)) ≡ 0). ⊎_elim
      (λ r. agree_in_hand k.length k'.length k.chain k'.chain b (hand r.0) (K.all_in_hands r.0) (K'.all_in_hands r.0) r.2)
      (λ (h : (p : ℕ) → p < processes → occurs b (first_in (hand p)) ≡ 0).
      let none_at : NoneAt box hand b = record {
        queued = λ m. ⊎_elim (λ i. ap (occurs b) (K.boxes.beyond m i)) (q m) (le? mailboxes m);
        all_in_hands = λ p. ⊎_elim (λ i. ap (λ (o : Option Message). occurs b (first_in o)) (K.no_more_hands p i)) (h p) (le? processes p);
      } in
      K.no_lengths b none_at ∙ sym (K'.no_lengths b none_at))
      (found b processes (λ p. first_in (hand p))))
      (found b mailboxes (λ m. firsts (box m)))

  links-at : (b : ℕ) → b < buffers → after k.chain b ≡ after k'.chain b
  unfolding held
  links-at b low = ⊎_elim
      (λ r. links-queued k.length k'.length k.chain k'.chain b (box r.0) (K.queued r.0) (K'.queued r.0) r.2)
      (λ (q : (m : ℕ) → m < mailboxes → occurs b (buffers_of (box m)) ≡ 0). ⊎_elim
      (λ r. links_in_hand k.length k'.length k.chain k'.chain b (hand r.0) (K.all_in_hands r.0) (K'.all_in_hands r.0) r.2)
      (λ (h : (p : ℕ) → p < processes → occurs b (in_hand (hand p)) ≡ 0).
      let free : held box hand b ≡ 0 =
      omega (arith, total_zero mailboxes (λ m. occurs b (buffers_of (box m))) q, total_zero processes (λ p. occurs b (in_hand (hand p))) h) in
      K.alone b low free ∙ sym (K'.alone b low free))
      (found b processes (λ p. in_hand (hand p))))
      (found b mailboxes (λ m. buffers_of (box m)))

  pub one-mail : k ≡ k'
  one-mail =
      let tables = one_table K.boxes K'.boxes in
      let hands = ext_get_or 0 k.hand k'.hand (K.hands_long ∙ sym K'.hands_long) (λ p h. K.hands p ∙ sym (K'.hands p)) in
      let full = K.full ∙ sym K'.full in
      let lengths = ext_get_or 0 k.length k'.length (K.lengths_long ∙ sym K'.lengths_long) (λ b h. agree_at b) in
      let links = ext_get_or 0 k.chain k'.chain (K.chain_long ∙ sym K'.chain_long) (λ b h. links-at b (omega (arith, K.chain_long))) in
      let free = K.free ∙ sym K'.free in
      λ i. record { tables = tables i; hand = hands i; full = full i; length = lengths i; free = free i; chain = links i }

-- structs of the same numbers are the same
bid_known : (a b : Bid) → num a ≡ num b → a ≡ b
bid_known a b e = λ i. record { 0 = e i }

pub numbers_known : (k k' : Mail) → numbers k ≡ numbers k' → k ≡ k'
unfolding numbers
numbers_known k k' e =
    let boxes = one-boxes k.boxes k'.boxes (ap (λ (n : Numbers). n.tables) e) in
    let hands = known num bid_known k.hand k'.hand (ap (λ (n : Numbers). n.hand) e) in
    let chain = known num bid_known k.chain k'.chain (ap (λ (n : Numbers). n.chain) e) in
    λ i. record { boxes = boxes i; hand = hands i; full = record { 0 = (e i).full }; length = (e i).length; free = record { 0 = (e i).free }; chain = chain i }

pub one_struct : (k k' : Mail) {box : ℕ → List Message} {hand : ℕ → Option Message} → Carries (numbers k) box hand → Carries (numbers k') box hand → k ≡ k'
one_struct k k' K K' = numbers_known k k' (one-mail K K')
