-- What is read off a struct that carries some mail.
-- Assumes nothing.
use Prim.Native.Nat.{ℕ, zero, suc, ◌≤◌, ◌<◌}
use mathlib.Core.Path.{◌≡◌, refl, sym, ap, ◌∙◌, subst}
use mathlib.Core.Bool.{not}
use mathlib.Core.Logic.{⊎_elim}
use mathlib.Core.List.{List, [], ◌∷◌}
use mathlib.Core.Option.{Option, none, some}
use native.Mathlib.Omega.{arith}
use lib.ListN.{length, get_or, length-map}
use lib.Dec.{ltb, leb}
use Rattle.std.specs.Prelude.{if◌then◌else◌}
use Rattle.lists.specs.Lists.{someone, lowest}
use Rattle.lists.proofs.Laws.{le?}
use Rattle.lists.proofs.Those.{those-same}
use Rattle.bits.specs.Word.{width, bits}
use Rattle.bits.proofs.Words.{word_below, word_has, bits_above}
use Rattle.rings.specs.Moves.{is_empty as is_empty_ring}
use Rattle.rings.proofs.Looks.{first_some, at_least, says_empty}
use Rattle.chains.specs.Links.{run, lows}
use Rattle.chains.proofs.Laws.{led_run}
use Rattle.chains.proofs.Lows.{word-lows, lows_out, lows-first}
use Rattle.plain.specs.Sizes.{processes, mailboxes, buffers}
use Rattle.plain.specs.State.{Message, State, Each, InHand, free_buffers}
use Rattle.plain.specs.Pages.{needed, lowest_free, too_few}
use Rattle.plain.specs.Calls.{is_empty, bytes_in}
use Rattle.mail.specs.Carries.{Numbers, first_of, firsts, buffer_in, is_full, is_free, Has, Carries}
use Rattle.mail.specs.Moves as Moves
use Rattle.mail.specs.Moves.{lacks, is_full_box, is_empty_box, has_message, hand_at, length_at, length_in_hand, first_length}

-- ---- the free buffers

-- the buffers that a message of n bytes takes
pub lowest_lies : {k : Numbers} (s : State) → Carries k s.box s.hand → (n : ℕ) → lows n (bits k.free) ≡ lowest_free n s
unfolding free_buffers
lowest_lies s K n = word-lows n (is_free s.box s.hand) K.free

pub lacks_is : {k : Numbers} (s : State) → Carries k s.box s.hand → (n : ℕ) → lacks k n ≡ too_few (needed n) s
unfolding lacks free_buffers
lacks_is {k} s K n = ap (λ (l : List ℕ). ltb (length l) (needed n)) (those-same 0 width (bits k.free) (is_free s.box s.hand) (λ b a h. word_has width (is_free s.box s.hand) K.free b h))

-- where some are taken, the lowest free one is the first of them
pub lowest-first : (k : Numbers) (n : ℕ) → 1 ≤ length (lows n (bits k.free)) → (get_or (lows n (bits k.free)) 0 0 ≡ Moves.lowest_free k) × (Moves.lowest_free k < buffers)
unfolding Moves.lowest_free
lowest-first k n any = ⊎_elim
    (λ (h : width ≤ lowest 0 width (bits k.free)). absurd (omega (arith, ap length (lows_out k.free n h))))
    (λ (h : lowest 0 width (bits k.free) < width). (lows-first k.free n (asked n any) h 0, h))
    (le? width (lowest 0 width (bits k.free)))
  where
    asked : (n : ℕ) → 1 ≤ length (lows n (bits k.free)) → 0 < n
    asked zero z = absurd (omega arith)
    asked (suc n) z = omega arith

module _ {k : Numbers} {box : ℕ → List Message} {hand : ℕ → Option Message} (K : Carries k box hand) where
  module _ (m : ℕ) where
    pub full_box : (n : ℕ) → is_full_box k m n ≡ leb n (length (box m))
    unfolding is_full_box
    full_box n = at_least K.boxes m n ∙ ap (leb n) (length-map (box m) first_of)

    pub empty_box : is_empty_box k m ≡ not (someone (box m))
    unfolding is_empty_box is_empty_ring
    empty_box = (says_empty {n = buffers} {m = mailboxes} {t = k.tables} {q = m} refl).queue (λ i. firsts (box i)) K.boxes ∙ firsts_someone (box m)
      where
        firsts_someone : (l : List Message) → not (someone (firsts l)) ≡ not (someone l)
        firsts_someone [] = refl
        firsts_someone (x ∷ l) = refl

    pub first-length : (x : Message) (l : List Message) → box m ≡ x ∷ l → first_length k m ≡ length x.bytes
    unfolding first_length
    first-length x l e =
        let was : Each (Has k.length k.chain) (x ∷ l) = subst (Each (Has k.length k.chain)) e (K.queued m) in
        rw (first_some K.boxes m (first_of x) (firsts l) (ap firsts e)).0 was.0.long

  module _ (p : ℕ) where
    pub has_message_lem : has_message k p ≡ not (is_empty (hand p))
    unfolding has_message
    has_message_lem = ⊎_elim
        (λ h. rw (K.no_more_hands p h, K.full) (bits_above width _ p (word_below width (is_full hand)) h))
        (λ h. word_has width (is_full hand) K.full p h)
        (le? processes p)

    pub in_hand_lem : hand_at k p ≡ buffer_in (hand p)
    unfolding hand_at
    in_hand_lem = K.hands p

    pub length_in_hand_lem : length_in_hand k p ≡ length (bytes_in (hand p))
    unfolding length_in_hand
    length_in_hand_lem = rw (has_message_lem, in_hand_lem) (go (hand p) (K.all_in_hands p))
      where
        go : (h : Option Message) → InHand (Has k.length k.chain) h → (if not (is_empty h) then length_at k (buffer_in h) else 0) ≡ length (bytes_in h)
        go none a = refl
        go (some x) a = a.long

-- the links lead through the buffers of a message that is had
pub has_run : {lengths chain : List ℕ} {x : Message} → Has lengths chain x → run chain (needed (length x.bytes)) (first_of x) ≡ x.lies
has_run {chain = chain} {x = x} h = subst (λ (n : ℕ). run chain n (first_of x) ≡ x.lies) h.many (sym (led_run chain h.led))
