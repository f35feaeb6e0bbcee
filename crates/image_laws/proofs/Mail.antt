-- The mailboxes and hands of a sound state as a struct, over any tables that hold the first buffers of the mailboxes' messages.
-- Assumes nothing.
use Prim.Native.Nat.{ℕ, ◌≤◌}
use mathlib.Core.Path.{◌≡◌, refl, sym, ap, ◌∙◌, subst}
use mathlib.Core.Logic.{⊎_elim}
use mathlib.Core.List.{List, map}
use mathlib.Core.Option.{Option, none}
use native.Mathlib.Omega.{arith}
use Rattle.lists.specs.Lists.{occurs}
use Rattle.lists.proofs.Laws.{le?, total-le}
use Rattle.bits.specs.Word.{width, word}
use Rattle.rings.specs.Ring.{Tables, Rings}
use Rattle.chains.proofs.Laws.{Once}
use Rattle.boxes.specs.Box.{num, tables_of}
use Rattle.sizes.specs.declared.Bid.{Bid}
use Rattle.plain.specs.Pages.{Whole}
use Rattle.plain.specs.Sizes.{processes, mailboxes, buffers}
use Rattle.plain.specs.Sound as Sound
use Rattle.plain.specs.State.{Message, Each, buffers_of, held}
use Rattle.plain_laws.proofs.Mail.{not_queued}
use Rattle.mail.specs.Carries.{Numbers, numbers, firsts, buffer_in, is_full, is_free, Has, Carries}
use Rattle.mail.specs.declared.Mail.{Mail}
use Rattle.mail.proofs.Held.{firsts-held}
use Rattle.image_laws.proofs.Arrays.{values, values_long, values-at, units, unit_tables}
use Rattle.image_laws.proofs.Buffers.{lengths_of, links_of, lengths_long, links_long, no_length, left_alone, had}
use Rattle.image_laws.proofs.Messages.{messages, each-message, each-queued, each_in_hand, messages-held, none_begins}
use Rattle.image_laws.proofs.Tables.{Orderly}

abbrev pub bid : ℕ → Bid
bid x = record { 0 = x }

-- the mailboxes are the tables t
abbrev pub mail_of : (ℕ → List Message) → (ℕ → Option Message) → Tables → Mail
mail_of box hand t = record {
  boxes = record { next = map bid t.next; prev = map bid t.prev };
  hand = map bid (values processes (λ p. buffer_in (hand p)));
  full = record { 0 = word width (is_full hand) };
  length = lengths_of (messages box hand);
  free = record { 0 = word width (is_free box hand) };
  chain = map bid (links_of (messages box hand));
}

module _ {capacity : ℕ → ℕ} (box : ℕ → List Message) (hand : ℕ → Option Message) (M : Sound.Mail capacity box hand) where
  abbrev all : List Message
  all = messages box hand

  pub all_once : Once buffers (buffers_of all)
  all_once = (
    λ b. omega (arith, messages-held box hand b, M.held_once b),
    λ b o. ⊎_elim (λ h. absurd (omega (arith, messages-held box hand b, M.no_more_buffers b h))) (λ h. h) (le? buffers b),
  )

  pub all_whole : Each Whole all
  all_whole = each-message Whole box hand M.queued M.all_in_hands

  abbrev Had : Message → Type 0
  Had = Has (lengths_of all) (links_of all)

  all_had : Each Had all
  all_had = had all all_whole all_once

  queued_had : (m : ℕ) → Each Had (box m)
  queued_had = each-queued Had box hand all_had M.no_more_boxes

  -- ---- the mailboxes

  begin-held : (b m : ℕ) → occurs b (firsts (box m)) ≤ occurs b (buffers_of (box m))
  begin-held b m = firsts-held (lengths_of all) (links_of all) b (box m) (queued_had m)

  pub boxes_orderly : Orderly buffers mailboxes (λ m. firsts (box m))
  unfolding held
  boxes_orderly = record {
    beyond = λ m h. ap firsts (M.no_more_boxes m h);
    members = λ m b o. ⊎_elim
        (λ h. absurd (omega (arith, begin-held b m, not_queued box hand b (M.no_more_buffers b h) (λ i g. ap buffers_of (M.no_more_boxes i g)) m)))
        (λ h. h)
        (le? buffers b);
    once = λ b. omega (arith, total-le mailboxes (λ m. occurs b (firsts (box m))) (λ m. occurs b (buffers_of (box m))) (begin-held b), M.held_once b);
  }

  -- ---- the struct

  module _ (empty : (p : ℕ) → processes ≤ p → hand p ≡ none) (t : Tables) (R : Rings buffers mailboxes t (λ m. firsts (box m))) where
    abbrev hands : ℕ → ℕ
    hands p = buffer_in (hand p)

    abbrev mail : Numbers
    mail = record { tables = t; hand = values processes hands; full = word width (is_full hand); length = lengths_of all; free = word width (is_free box hand); chain = links_of all }

    carried : Carries mail box hand
    carried = record {
      hands_long = values_long processes hands;
      lengths_long = lengths_long all;
      chain_long = links_long all;
      boxes = R;
      hands = values-at processes hands (λ p h. ap buffer_in (empty p h));
      no_more_hands = empty;
      full = refl;
      queued = queued_had;
      all_in_hands = each_in_hand Had box hand all_had empty;
      no_lengths = λ b z. no_length all b (none_begins box hand b z);
      alone = λ b h z. left_alone all b h (messages-held box hand b ∙ z);
      free = refl;
    }

    mail_is : mail ≡ numbers (mail_of box hand t)
    unfolding numbers tables_of
    mail_is =
        let tables = sym (unit_tables num bid (λ x. refl) t) in
        let bids : (l : List ℕ) → l ≡ map num (map bid l) = λ l. sym (units num bid (λ x. refl) l) in
        λ i. record { tables = tables i; hand = bids (values processes hands) i; full = mail.full; length = mail.length; free = mail.free; chain = bids (links_of all) i }

    pub carries : Carries (numbers (mail_of box hand t)) box hand
    carries = subst (λ (n : Numbers). Carries n box hand) mail_is carried
