-- Of every message that is held: in which buffers it lies and in which not, and what follows of one follows of all.
-- Assumes nothing.
use Prim.Native.Nat.{ℕ, ◌+◌, ◌*◌, ◌≤◌}
use mathlib.Core.List.{List, [], ◌∷◌}
use mathlib.Core.Option.{Option, none, some}
use mathlib.Core.Path.{◌≡◌, sym, ap, ◌∙◌}
use native.Mathlib.Omega.{arith}
use lib.ListN.{length}
use Rattle.lists.proofs.Laws.{occurs-append}
use Rattle.lists.specs.Lists.{occurs}
use Rattle.plain.specs.Pages.{needed, Whole}
use Rattle.plain.specs.Sizes.{buffer_size}
use Rattle.plain.specs.Sound.{Sound}
use Rattle.plain.specs.State.{Message, State, Each, InHand, buffers_of, in_hand, held}
use Rattle.plain_laws.proofs.Mail.{not_queued, not_in_hand}
use Rattle.promise.proofs.Places.{AreBuffers}

-- its buffers have room for it
pub room_for : (x : Message) → Whole x → length x.bytes ≤ buffer_size * length x.lies
unfolding needed buffer_size
room_for x w = omega (arith, w.many)

-- a buffer that is held nowhere is in no mailbox and in no hand
module _ (s : State) (k : Sound s) (b : ℕ) (none_holds : held s.box s.hand b ≡ 0) where
  in_no_box : (m : ℕ) → occurs b (buffers_of (s.box m)) ≡ 0
  in_no_box = not_queued s.box s.hand b none_holds (λ m h. ap buffers_of (k.mail.no_more_boxes m h))

  in_no_hand : (p : ℕ) → occurs b (in_hand (s.hand p)) ≡ 0
  in_no_hand = not_in_hand s.box s.hand b none_holds (λ p h. k.hands.unused p (k.seated.nobody_else p h))

-- the message in a hand lies in buffers
pub hand-buffers : (s : State) → Sound s → (p : ℕ) → AreBuffers (in_hand (s.hand p))
hand-buffers s k p j h = in_no_hand s k j (k.mail.no_more_buffers j h) p

-- what follows of one message that lies in none of these
module _ (These : ℕ → Type 0) {P Q : Message → Type 0} (one : (x : Message) → ((j : ℕ) → These j → occurs j x.lies ≡ 0) → Whole x → P x → Q x) where
  of_each : (l : List Message) → ((j : ℕ) → These j → occurs j (buffers_of l) ≡ 0) → Each Whole l → Each P l → Each Q l
  of_each [] away w h = tt
  of_each (x ∷ l) away w h =
      let both : (j : ℕ) → These j → occurs j x.lies + occurs j (buffers_of l) ≡ 0 = λ j t. sym (occurs-append j x.lies (buffers_of l)) ∙ away j t in
      (one x (λ j t. omega (arith, both j t)) w.0 h.0, of_each l (λ j t. omega (arith, both j t)) w.1 h.1)

  of_one : (h : Option Message) → ((j : ℕ) → These j → occurs j (in_hand h) ≡ 0) → InHand Whole h → InHand P h → InHand Q h
  of_one none away w p = tt
  of_one (some x) away w p = one x away w p

  -- follows of all, where none of these is held
  module _ (s : State) (k : Sound s) (nowhere : (j : ℕ) → These j → held s.box s.hand j ≡ 0) where
    pub of_queued : ((m : ℕ) → Each P (s.box m)) → (m : ℕ) → Each Q (s.box m)
    of_queued h m = of_each (s.box m) (λ j t. in_no_box s k j (nowhere j t) m) (k.mail.queued m) (h m)

    pub of_hands : ((p : ℕ) → InHand P (s.hand p)) → (p : ℕ) → InHand Q (s.hand p)
    of_hands h p = of_one (s.hand p) (λ j t. in_no_hand s k j (nowhere j t) p) (k.mail.all_in_hands p) (h p)
