-- The limits of tables that carry sound mail: no length above that of the longest message, no hand and no link past the last buffer.
-- Assumes nothing.
use Prim.Native.Nat.{ℕ, ◌+◌, ◌≤◌, ◌<◌}
use mathlib.Core.Path.{◌≡◌, ap}
use mathlib.Core.Logic.{◌≢◌, ⊎_elim}
use mathlib.Core.List.{List, [], ◌∷◌}
use mathlib.Core.Option.{Option, none, some}
use native.Mathlib.Omega.{arith}
use lib.ListN.{get_or}
use Rattle.lists.specs.Lists.{occurs}
use Rattle.std.proofs.lemmas.Bool.{cases_eq}
use Rattle.lists.proofs.Laws.{le?, one_same, one_other, occurs-append}
use Rattle.chains.specs.Led.{after, Led}
use Rattle.chains.specs.Links.{run}
use Rattle.chains.proofs.Laws.{led_run}
use Rattle.plain.specs.Pages.{Whole}
use Rattle.plain.specs.Sizes.{buffers, longest}
use Rattle.plain.specs.Sound as Sound
use Rattle.plain.specs.State.{Message, Each, InHand, buffers_of, in_hand}
use Rattle.plain_laws.proofs.Mail.{not_in_hand}
use Rattle.mail.specs.Carries.{Numbers, first_of, firsts, buffer_in, Has, Carries}
use Rattle.mail.proofs.Held.{first_in_lem}
use Rattle.image_laws.proofs.Mail.{all_once, all_whole}
use Rattle.image_laws.proofs.Messages.{messages, each-message, messages-held, none_at}

-- a link leads to the next of its list, or to itself
led_inside : (t : List ℕ) {n a : ℕ} {l : List ℕ} → Led t a l → ((p : ℕ) → 1 ≤ occurs p l → p < n) → (b : ℕ) → 1 ≤ occurs b l → after t b < n
unfolding run
led_inside t Led.none low b o = absurd (omega arith)
led_inside t (Led.last {b = a} e) low b o = ⊎_elim
    (λ (d : a ≡ b). omega (arith, ap (after t) d, low a (omega (arith, one_same a))))
    (λ (d : a ≢ b). absurd (omega (arith, one_other a b d)))
    (cases_eq a b)
led_inside t (Led.on {b = a} {x = x} {l = l} d) low b o = ⊎_elim
    (λ (e : a ≡ b). omega (arith, ap (after t) e, ap (λ (r : List ℕ). get_or r 0 0) (led_run t d), low x (omega (arith, one_same x))))
    (λ (e : a ≢ b). led_inside t d (λ p h. low p (omega arith)) b (omega (arith, one_other a b e)))
    (cases_eq a b)

-- what has these messages has, where one begins, its length, and where one lies, a link within it
module _ (lengths chain : List ℕ) (b : ℕ) where
  first_short : (l : List Message) → Each (Has lengths chain) l → Each Whole l → 1 ≤ occurs b (firsts l) → get_or lengths b 0 ≤ longest
  first_short [] h w o = absurd (omega arith)
  first_short (x ∷ l) h w o = ⊎_elim
      (λ (e : first_of x ≡ b). omega (arith, ap (λ (i : ℕ). get_or lengths i 0) e, h.0.long, w.0.short))
      (λ (d : first_of x ≢ b). first_short l h.1 w.1 (omega (arith, one_other (first_of x) b d)))
      (cases_eq (first_of x) b)

  lies_inside : {n : ℕ} (l : List Message) → Each (Has lengths chain) l → ((p : ℕ) → 1 ≤ occurs p (buffers_of l) → p < n) → 1 ≤ occurs b (buffers_of l) → after chain b < n
  lies_inside [] h low o = absurd (omega arith)
  lies_inside (x ∷ l) h low o =
      let parts : (p : ℕ) → occurs p (buffers_of (x ∷ l)) ≡ occurs p x.lies + occurs p (buffers_of l) = λ p. occurs-append p x.lies (buffers_of l) in
      ⊎_elim
      (λ (e : 1 ≤ occurs b x.lies). led_inside chain h.0.led (λ p i. low p (omega (arith, parts p))) b e)
      (λ (e : occurs b x.lies < 1). lies_inside l h.1 (λ p i. low p (omega (arith, parts p))) (omega (arith, parts b)))
      (le? 1 (occurs b x.lies))

module _ {k : Numbers} {box : ℕ → List Message} {hand : ℕ → Option Message} (K : Carries k box hand) {capacity : ℕ → ℕ} (M : Sound.Mail capacity box hand) where
  abbrev Had : Message → Type 0
  Had = Has k.length k.chain

  all_had : Each Had (messages box hand)
  all_had = each-message Had box hand K.queued K.all_in_hands

  pub hand_inside : (p : ℕ) → buffer_in (hand p) < buffers
  hand_inside p = go (hand p) (K.all_in_hands p) (λ b h. not_in_hand box hand b (M.no_more_buffers b h) K.no_more_hands p)
    where
      go : (h : Option Message) → InHand Had h → ((b : ℕ) → buffers ≤ b → occurs b (in_hand h) ≡ 0) → buffer_in h < buffers
      go none a z = omega arith
      go (some x) a z = ⊎_elim (λ h. absurd (omega (arith, z (first_of x) h, first_in_lem k.length k.chain a))) (λ h. h) (le? buffers (first_of x))

  module _ (b : ℕ) where
    pub short : get_or k.length b 0 ≤ longest
    short = ⊎_elim
        (λ o. first_short k.length k.chain b (messages box hand) all_had (all_whole box hand M) o)
        (λ (z : occurs b (firsts (messages box hand)) < 1). omega (arith, K.no_lengths b (none_at box hand b M.no_more_boxes K.no_more_hands (omega arith))))
        (le? 1 (occurs b (firsts (messages box hand))))

    pub link_inside : b < buffers → after k.chain b < buffers
    link_inside h = ⊎_elim
        (λ o. lies_inside k.length k.chain b (messages box hand) all_had (all_once box hand M).1 o)
        (λ (z : occurs b (buffers_of (messages box hand)) < 1). omega (arith, K.alone b h (omega (arith, messages-held box hand b))))
        (le? 1 (occurs b (buffers_of (messages box hand))))
