-- The mail that the struct carries after each change, where it carried some before.
-- Assumes nothing.
use Prim.Native.Nat.{ℕ, ◌+◌, ◌≤◌, ◌<◌}
use mathlib.Core.Path.{◌≡◌, refl, sym, ap, ◌∙◌, subst}
use mathlib.Core.Bool.{true, false, not}
use mathlib.Core.Logic.{◌≢◌, ⊎_elim}
use mathlib.Core.List.{List, [], ◌∷◌, ◌++◌}
use mathlib.Core.Option.{Option, none, some}
use native.Mathlib.Omega.{arith}
use lib.ListN.{length, get_or, set, length-set}
use lib.Seq.{get_or-set_same, get_or-set_other}
use lib.Dec.{eqb}
use borrow.Author.Tests.{eq-eqb, ne_eqb, lt-ltb, le-ltb}
use Rattle.std.specs.Prelude.{if◌then◌else◌}
use Rattle.lists.specs.Lists.{put, occurs}
use Rattle.lists.proofs.Laws as Laws
use Rattle.std.proofs.lemmas.Bool.{cases_eq}
use Rattle.lists.proofs.Laws.{le?, put_cases}
use Rattle.bits.specs.Word.{width, word, bits}
use Rattle.bits.proofs.Words.{word_same}
use Rattle.rings.specs.Ring.{Rings, Absent}
use Rattle.rings.specs.Moves.{join_rear, leave, first}
use Rattle.rings.proofs.Laws.{taken_from}
use Rattle.rings.proofs.Looks.{first_some, fresh_rings}
use Rattle.rings.proofs.Moves.{rear, left}
use Rattle.chains.specs.Led.{after}
use Rattle.chains.specs.Links.{run, lows, link_up, alone, puts}
use Rattle.chains.proofs.Laws.{linked-length, linked_other, linked_list, alone-length, alone-own, alone_other, own-after, own-length}
use Rattle.plain.specs.Sizes.{processes, mailboxes, buffers, longest}
use Rattle.plain.specs.State.{Message, State, Each, InHand, buffers_of, in_hand, held}
use Rattle.plain.specs.Pages as Pages
use Rattle.plain.specs.Pages.{needed, too_few}
use Rattle.plain.specs.Calls.{is_empty, deliver}
use Rattle.plain.specs.Mailboxes as Mailboxes
use Rattle.plain.specs.Mailboxes.{overflows}
use Rattle.plain.specs.Sound.{Mail}
use Rattle.plain_laws.proofs.Mail.{Fits, fits_free, not_queued, not_in_hand, held-queued, held-given, held_lost, held_let_go, each_rear}
use Rattle.plain_laws.proofs.Relief.{relieved_by}
use Rattle.mail.specs.Carries.{Numbers, first_of, firsts, buffer_in, is_free, Has, NoneAt, Carries}
use Rattle.mail.specs.Moves.{lowest_free, fresh_mail, filled, freed, given, emptied, relinked, queued_last, handed_over, delivered, oldest_dropped, relieved, fetched, let_go}
use Rattle.mail.proofs.Held.{firsts-append, firsts_none, held_nowhere, head_there, first_in_lem, firsts-held, none_queued, none_lost, none_given, none_let_go}
use Rattle.mail.proofs.Looks.{lowest_lies, lowest-first, has_message_lem, in_hand_lem, has_run}
use Rattle.mail.proofs.Parts.{put_kept, firsts_put, hands_put, no_more_put, full_put, free_put, Apart, set_off, each_kept, hand_kept}

pub fresh_carries : Carries fresh_mail (λ m. []) (λ p. none)
unfolding fresh_mail
fresh_carries =
    record {
      hands_long = refl;
      lengths_long = refl;
      chain_long = own-length;
      boxes = fresh_rings buffers mailboxes;
      hands = Laws.zeros processes;
      no_more_hands = λ p h. refl;
      full = refl;
      queued = λ m. tt;
      all_in_hands = λ p. tt;
      no_lengths = λ b z. Laws.zeros buffers b;
      alone = λ b h z. own-after b h;
      free = word_same width (λ b. true) (is_free (λ m. []) (λ p. none)) (λ b h. sym (eq-eqb (held (λ m. []) (λ p. none) b) 0 (held_nowhere b)));
    }

module _ {k : Numbers} {box : ℕ → List Message} {hand : ℕ → Option Message} (K : Carries k box hand) where
  -- past the last mailbox there is none
  no_box : (m : ℕ) → mailboxes ≤ m → box m ≡ []
  no_box m h = firsts_none (box m) (K.boxes.beyond m h)

  -- ---- message x of n bytes comes into the lowest free buffers
  module _ (n : ℕ) (x : Message) (F : Fits box hand x) (is : x.lies ≡ lows (needed n) (bits k.free)) (long : length x.bytes ≡ n) where
    abbrev b : ℕ
    b = lowest_free k

    abbrev lengths : List ℕ
    lengths = set k.length b n

    abbrev links : List ℕ
    links = link_up k.chain x.lies

    abbrev stocked : Numbers
    stocked = record { tables = k.tables; hand = k.hand; full = k.full; length = lengths; free = word width (puts (bits k.free) x.lies false); chain = links }

    filled_is : stocked ≡ filled k n
    unfolding filled
    filled_is = ap (λ (l : List ℕ). record { tables = k.tables; hand = k.hand; full = k.full; length = lengths; free = word width (puts (bits k.free) l false); chain = link_up k.chain l }) is

    some_lie : 1 ≤ length x.lies
    unfolding needed
    some_lie = omega (arith, F.whole.many)

    begins : (first_of x ≡ b) × (b < buffers)
    begins =
        let a = lowest-first k (needed n) (omega (arith, some_lie, ap length is)) in
        (ap (λ (l : List ℕ). get_or l 0 0) is ∙ a.0, a.1)

    there : 1 ≤ occurs b x.lies
    there = subst (λ (i : ℕ). 1 ≤ occurs i x.lies) begins.0 (head_there x.lies some_lie)

    off_boxes : (m : ℕ) → Apart x.lies (buffers_of (box m))
    off_boxes m p o = not_queued box hand p (omega (arith, F.once p)) (λ i h. ap buffers_of (no_box i h)) m

    off_hands : (q : ℕ) → Apart x.lies (in_hand (hand q))
    off_hands q p o = not_in_hand box hand p (omega (arith, F.once p)) K.no_more_hands q

    kept_boxes : (m : ℕ) → Each (Has lengths links) (box m)
    kept_boxes m = each_kept k.length lengths k.chain links x.lies (set_off k.length b n x.lies there) (linked_other k.chain x.lies) (box m) (off_boxes m) (K.queued m)

    kept_hands : (p : ℕ) → InHand (Has lengths links) (hand p)
    kept_hands p = hand_kept k.length lengths k.chain links x.lies (set_off k.length b n x.lies there) (linked_other k.chain x.lies) (hand p) (off_hands p) (K.all_in_hands p)

    in_range : (p : ℕ) → 1 ≤ occurs p x.lies → p < length k.chain
    in_range p o = ⊎_elim (λ (h : buffers ≤ p). absurd (omega (arith, F.range p h))) (λ (h : p < buffers). omega (arith, K.chain_long)) (le? buffers p)

    pub own_has : Has lengths links x
    own_has = record {
      long = rw (begins.0, long) (get_or-set_same k.length b n 0 (omega (arith, K.lengths_long, begins.1)));
      led = linked_list k.chain x.lies some_lie (λ p. omega (arith, F.once p), in_range);
      many = F.whole.many;
    }

    absent : Absent b (λ m. firsts (box m))
    absent m = omega (arith, firsts-held k.length k.chain b (box m) (K.queued m), off_boxes m b there)

    zeros : (i : ℕ) → NoneAt box hand i → i ≢ first_of x → get_or lengths i 0 ≡ 0
    zeros i z d = get_or-set_other k.length b i n 0 (λ e. d (e ∙ sym begins.0)) ∙ K.no_lengths i z

    module _ (box' : ℕ → List Message) (hand' : ℕ → Option Message) (more : (i : ℕ) → held box' hand' i ≡ held box hand i + occurs i x.lies) where
      free-bits : stocked.free ≡ word width (is_free box' hand')
      free-bits = free_put box box' hand hand' x.lies false K.free (λ p o. ne_eqb (held box' hand' p) 0 (omega (arith, more p))) (λ p z. omega (arith, more p))

      still_alone : (i : ℕ) → i < buffers → held box' hand' i ≡ 0 → after links i ≡ i
      still_alone i h z = linked_other k.chain x.lies i (omega (arith, more i)) ∙ K.alone i h (omega (arith, more i))

    queued_carries : (m : ℕ) → m < mailboxes → Carries (queued_last k m n) (put box m (box m ++ (x ∷ []))) hand
    unfolding queued_last
    queued_carries m hm =
        let l : List Message = box m ++ (x ∷ []) in
        let more : (i : ℕ) → held (put box m l) hand i ≡ held box hand i + occurs i x.lies = λ i. held-queued box hand i m x hm in
        let rear_is : firsts (box m) ++ (b ∷ []) ≡ firsts l = rw (← begins.0) (sym (firsts-append (box m) (x ∷ []))) in
        subst (λ (j : Numbers). Carries (relinked j (join_rear buffers mailboxes k.tables m b)) (put box m l) hand) filled_is
        (record {
          hands_long = K.hands_long;
          lengths_long = length-set k.length b n ∙ K.lengths_long;
          chain_long = linked-length k.chain x.lies ∙ K.chain_long;
          boxes = subst (Rings buffers mailboxes (join_rear buffers mailboxes k.tables m b))
              (ap (put (λ i. firsts (box i)) m) rear_is ∙ firsts_put box m l)
              (rear K.boxes m b hm begins.1 absent);
          hands = K.hands;
          no_more_hands = K.no_more_hands;
          full = K.full;
          queued = λ i. put_cases (Each (Has lengths links)) box m l i (λ e. each_rear (Has lengths links) (box m) x (kept_boxes m) own_has) (λ d. kept_boxes i);
          all_in_hands = kept_hands;
          no_lengths = λ i z. let y = none_queued box hand i x m z in zeros i y.0 y.1;
          alone = still_alone (put box m l) hand more;
          free = free-bits (put box m l) hand more;
        })

    handed_carries : (p : ℕ) → p < processes → hand p ≡ none → Carries (handed_over k p n) box (put hand p (some x))
    unfolding handed_over given
    handed_carries p hp empty =
        let more : (i : ℕ) → held box (put hand p (some x)) i ≡ held box hand i + occurs i x.lies = λ i. held-given box hand i p x hp empty in
        subst (λ (j : Numbers). Carries (given j p b) box (put hand p (some x))) filled_is
        (record {
          hands_long = length-set k.hand p b ∙ K.hands_long;
          lengths_long = length-set k.length b n ∙ K.lengths_long;
          chain_long = linked-length k.chain x.lies ∙ K.chain_long;
          boxes = K.boxes;
          hands = rw (← begins.0) (hands_put hand p (some x) k.hand (omega (arith, K.hands_long)) K.hands);
          no_more_hands = no_more_put hand p (some x) hp K.no_more_hands;
          full = full_put hand p (some x) K.full;
          queued = kept_boxes;
          all_in_hands = λ i. put_cases (InHand (Has lengths links)) hand p (some x) i (λ e. own_has) (λ d. kept_hands i);
          no_lengths = λ i z. let y = none_given box hand i x p empty z in zeros i y.0 y.1;
          alone = still_alone box (put hand p (some x)) more;
          free = free-bits box (put hand p (some x)) more;
        })

  -- ---- message x is lost, and box' and hand' are left: its buffers become free
  module _ {capacity : ℕ → ℕ} (M : Mail capacity box hand) (x : Message) (had : Has k.length k.chain x) (box' : ℕ → List Message) (hand' : ℕ → Option Message)
      (less : (i : ℕ) → held box' hand' i + occurs i x.lies ≡ held box hand i) where
    abbrev lengths_left : List ℕ
    lengths_left = set k.length (first_of x) 0

    abbrev links_left : List ℕ
    links_left = alone k.chain x.lies

    abbrev left_over : Numbers
    left_over = record { tables = k.tables; hand = k.hand; full = k.full; length = lengths_left; free = word width (puts (bits k.free) x.lies true); chain = links_left }

    freed_is : left_over ≡ freed k (first_of x)
    unfolding freed
    freed_is = ap (λ (l : List ℕ). record { tables = k.tables; hand = k.hand; full = k.full; length = lengths_left; free = word width (puts (bits k.free) l true); chain = alone k.chain l })
        (sym (has_run had) ∙ ap (λ (i : ℕ). run k.chain (needed i) (first_of x)) (sym had.long))

    now_free : (p : ℕ) → 1 ≤ occurs p x.lies → held box' hand' p ≡ 0
    now_free p o = omega (arith, less p, M.held_once p)

    lies_below : (p : ℕ) → 1 ≤ occurs p x.lies → p < buffers
    lies_below p o = ⊎_elim (λ (h : buffers ≤ p). absurd (omega (arith, less p, M.no_more_buffers p h))) (λ (h : p < buffers). h) (le? buffers p)

    boxes-left : ((m : ℕ) → mailboxes ≤ m → box' m ≡ []) → ((m : ℕ) → Each (Has k.length k.chain) (box' m)) → (m : ℕ) → Each (Has lengths_left links_left) (box' m)
    boxes-left beyond all m =
        each_kept k.length lengths_left k.chain links_left x.lies (set_off k.length (first_of x) 0 x.lies (first_in_lem k.length k.chain had)) (alone_other k.chain x.lies) (box' m)
        (λ p o. not_queued box' hand' p (now_free p o) (λ i h. ap buffers_of (beyond i h)) m) (all m)

    hands-left : ((p : ℕ) → processes ≤ p → hand' p ≡ none) → ((p : ℕ) → InHand (Has k.length k.chain) (hand' p)) → (p : ℕ) → InHand (Has lengths_left links_left) (hand' p)
    hands-left beyond all q =
        hand_kept k.length lengths_left k.chain links_left x.lies (set_off k.length (first_of x) 0 x.lies (first_in_lem k.length k.chain had)) (alone_other k.chain x.lies) (hand' q)
        (λ p o. not_in_hand box' hand' p (now_free p o) beyond q) (all q)

    zeros-left : (i : ℕ) → (i ≢ first_of x → NoneAt box hand i) → get_or lengths_left i 0 ≡ 0
    zeros-left i f = ⊎_elim
        (λ (e : i ≡ first_of x). rw e (get_or-set_same k.length (first_of x) 0 0 (omega (arith, K.lengths_long, lies_below (first_of x) (first_in_lem k.length k.chain had)))))
        (λ (d : i ≢ first_of x). get_or-set_other k.length (first_of x) i 0 0 d ∙ K.no_lengths i (f d))
        (cases_eq i (first_of x))

    alone-left : (i : ℕ) → i < buffers → held box' hand' i ≡ 0 → after links_left i ≡ i
    alone-left i h z = ⊎_elim
        (λ (o : 1 ≤ occurs i x.lies). alone-own k.chain x.lies i o (omega (arith, K.chain_long)))
        (λ (o : occurs i x.lies < 1). alone_other k.chain x.lies i (omega arith) ∙ K.alone i h (omega (arith, less i)))
        (le? 1 (occurs i x.lies))

    free-left : left_over.free ≡ word width (is_free box' hand')
    free-left = free_put box box' hand hand' x.lies true K.free (λ p o. eq-eqb (held box' hand' p) 0 (now_free p o)) (λ p z. omega (arith, less p))

  -- ---- the first message of mailbox m leaves it
  module _ (m : ℕ) (x : Message) (l : List Message) (hm : m < mailboxes) (e : box m ≡ x ∷ l) where
    first_is : first buffers mailboxes k.tables m ≡ first_of x
    first_is = (first_some K.boxes m (first_of x) (firsts l) (ap firsts e)).0

    gone : Rings buffers mailboxes (leave buffers mailboxes k.tables (first_of x)) (λ i. firsts (put box m l i))
    gone = subst (Rings buffers mailboxes (leave buffers mailboxes k.tables (first_of x)))
        (taken_from K.boxes m (first_of x) [] (firsts l) (ap firsts e) ∙ firsts_put box m l)
        (left K.boxes (first_of x))

    were : Each (Has k.length k.chain) (x ∷ l)
    were = subst (Each (Has k.length k.chain)) e (K.queued m)

    rest : (i : ℕ) → Each (Has k.length k.chain) (put box m l i)
    rest i = put_cases (Each (Has k.length k.chain)) box m l i (λ d. were.1) (λ d. K.queued i)

    oldest_carries : {capacity : ℕ → ℕ} → Mail capacity box hand → Carries (oldest_dropped k m) (put box m l) hand
    unfolding oldest_dropped
    oldest_carries M =
        let less : (i : ℕ) → held (put box m l) hand i + occurs i x.lies ≡ held box hand i = λ i. held_lost box hand i m x l hm e in
        rw first_is
        (subst (λ (j : Numbers). Carries (relinked j (leave buffers mailboxes k.tables (first_of x))) (put box m l) hand) (freed_is M x were.0 (put box m l) hand less)
        (record {
          hands_long = K.hands_long;
          lengths_long = length-set k.length (first_of x) 0 ∙ K.lengths_long;
          chain_long = alone-length k.chain x.lies ∙ K.chain_long;
          boxes = gone;
          hands = K.hands;
          no_more_hands = K.no_more_hands;
          full = K.full;
          queued = boxes-left M x were.0 (put box m l) hand less (λ i h. firsts_none (put box m l i) (gone.beyond i h)) rest;
          all_in_hands = hands-left M x were.0 (put box m l) hand less K.no_more_hands K.all_in_hands;
          no_lengths = λ i z. zeros-left M x were.0 (put box m l) hand less i (none_lost box hand i x m l e z);
          alone = alone-left M x were.0 (put box m l) hand less;
          free = free-left M x were.0 (put box m l) hand less;
        }))

    -- and goes into the empty hand of p
    pub fetched_carries : (p : ℕ) → p < processes → hand p ≡ none → Carries (fetched k m p) (put box m l) (put hand p (some x))
    unfolding fetched given
    fetched_carries p hp empty =
        let same : (i : ℕ) → held (put box m l) (put hand p (some x)) i ≡ held box hand i =
        λ i. held-given (put box m l) hand i p x hp empty ∙ held_lost box hand i m x l hm e in
        rw first_is
        (record {
          hands_long = length-set k.hand p (first_of x) ∙ K.hands_long;
          lengths_long = K.lengths_long;
          chain_long = K.chain_long;
          boxes = gone;
          hands = hands_put hand p (some x) k.hand (omega (arith, K.hands_long)) K.hands;
          no_more_hands = no_more_put hand p (some x) hp K.no_more_hands;
          full = full_put hand p (some x) K.full;
          queued = rest;
          all_in_hands = λ i. put_cases (InHand (Has k.length k.chain)) hand p (some x) i (λ d. were.0) (λ d. K.all_in_hands i);
          no_lengths = λ i z. let y = none_given (put box m l) hand i x p empty z in K.no_lengths i (none_lost box hand i x m l e y.0 y.1);
          alone = λ i h z. K.alone i h (sym (same i) ∙ z);
          free = K.free ∙ word_same width (is_free box hand) (is_free (put box m l) (put hand p (some x))) (λ i h. ap (λ (c : ℕ). eqb c 0) (sym (same i)));
        })

  -- ---- the hand of p becomes empty
  module _ {capacity : ℕ → ℕ} (M : Mail capacity box hand) (p : ℕ) (hp : p < processes) where
    emptied_carries : (x : Message) → hand p ≡ some x → Carries (emptied (freed k (first_of x)) p) box (put hand p none)
    unfolding emptied
    emptied_carries x e =
        let hand' : ℕ → Option Message = put hand p none in
        let had : Has k.length k.chain x = subst (InHand (Has k.length k.chain)) e (K.all_in_hands p) in
        let less : (i : ℕ) → held box hand' i + occurs i x.lies ≡ held box hand i = λ i. held_let_go box hand i p x hp e in
        let no_more = no_more_put hand p none hp K.no_more_hands in
        subst (λ (j : Numbers). Carries (emptied j p) box hand') (freed_is M x had box hand' less)
        (record {
          hands_long = length-set k.hand p 0 ∙ K.hands_long;
          lengths_long = length-set k.length (first_of x) 0 ∙ K.lengths_long;
          chain_long = alone-length k.chain x.lies ∙ K.chain_long;
          boxes = K.boxes;
          hands = hands_put hand p none k.hand (omega (arith, K.hands_long)) K.hands;
          no_more_hands = no_more;
          full = full_put hand p none K.full;
          queued = boxes-left M x had box hand' less no_box K.queued;
          all_in_hands = hands-left M x had box hand' less no_more (λ i. put_cases (InHand (Has k.length k.chain)) hand p none i (λ d. tt) (λ d. K.all_in_hands i));
          no_lengths = λ i z. zeros-left M x had box hand' less i (none_let_go box hand i x p e z);
          alone = alone-left M x had box hand' less;
          free = free-left M x had box hand' less;
        })

    pub let_go_carries : Carries (let_go k p) box (put hand p none)
    unfolding let_go
    let_go_carries = rw (has_message_lem K p, in_hand_lem K p) (go (hand p) refl)
      where
        go : (h : Option Message) → hand p ≡ h → Carries (if not (is_empty h) then emptied (freed k (buffer_in h)) p else k) box (put hand p none)
        go none e = subst (Carries k box) (put_kept hand p none e) K
        go (some x) e = emptied_carries x e

-- a mailbox that overflows loses its first message; it has one, since it takes one at least
pub relieved_carries : {k : Numbers} (s : State) → Carries k s.box s.hand → Mail s.settings.capacity s.box s.hand → (m : ℕ) → m < mailboxes → 1 ≤ s.settings.capacity m
    → Carries (relieved k m (overflows m s)) (Mailboxes.relieved m s).box (Mailboxes.relieved m s).hand
unfolding relieved
relieved_carries {k} s K M m hm takes = relieved_by m s (λ t. Carries (relieved k m (overflows m s)) t.box t.hand) takes
    (λ z. rw z K)
    (λ x l e o. rw o (oldest_carries K m x l hm e M))

-- ---- a message of n bytes is sent, for which buffers enough are free

module _ {k : Numbers} (s : State) (K : Carries k s.box s.hand) (M : Mail s.settings.capacity s.box s.hand) (bytes : List ℕ) (n : ℕ) (long : length bytes ≡ n)
    (enough : too_few (needed (length bytes)) s ≡ false) (short : length bytes ≤ longest) where
  abbrev sent : Message
  sent = record { lies = Pages.lowest_free (needed (length bytes)) s; bytes = bytes }

  sent_fits : Fits s.box s.hand sent
  sent_fits = fits_free s bytes M enough short

  lies_is : sent.lies ≡ lows (needed n) (bits k.free)
  lies_is = ap (λ (i : ℕ). Pages.lowest_free (needed i) s) long ∙ sym (lowest_lies s K (needed n))

  -- w is the first of those who wait at mailbox m, with an empty hand, or no process where nobody waits
  pub delivered_carries : (m w : ℕ) (waiters : List ℕ) → m < mailboxes → (processes ≤ w → waiters ≡ []) → (w < processes → (l : List ℕ) × (waiters ≡ w ∷ l)) → (w < processes → s.hand w ≡ none)
      → Carries (delivered k m w n) (deliver m sent waiters s).box (deliver m sent waiters s).hand
  unfolding delivered
  delivered_carries m w waiters hm nobody first empty = ⊎_elim
      (λ h. rw (le-ltb w processes h, nobody h) (queued_carries K n sent sent_fits lies_is long m hm))
      (λ h. rw (lt-ltb w processes h, (first h).1) (handed_carries K n sent sent_fits lies_is long w h (empty h)))
      (le? processes w)

  -- and the links lead through its buffers
  chain_is : (m w : ℕ) → link_up k.chain sent.lies ≡ (delivered k m w n).chain
  unfolding delivered handed_over queued_last given filled
  chain_is m w = ⊎_elim
      (λ h. rw (le-ltb w processes h, lies_is) refl)
      (λ h. rw (lt-ltb w processes h, lies_is) refl)
      (le? processes w)

  pub delivered-run : (m w : ℕ) → run (delivered k m w n).chain (needed (length bytes)) (lowest_free k) ≡ sent.lies
  delivered-run m w = subst (λ (t : List ℕ). run t (needed (length bytes)) (lowest_free k) ≡ sent.lies) (chain_is m w)
      (subst (λ (i : ℕ). run (link_up k.chain sent.lies) (needed (length bytes)) i ≡ sent.lies) (begins K n sent sent_fits lies_is long).0 (has_run (own_has K n sent sent_fits lies_is long)))
