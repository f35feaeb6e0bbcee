-- Mailboxes that drop and mailboxes that refuse: which sends they take, and what they keep.
-- Assumes nothing.
use Prim.Native.Nat.{ℕ, ◌+◌, ◌≤◌, ◌<◌}
use mathlib.Core.Path.{◌≡◌, refl, sym, ap, ap₂, ◌∙◌, subst}
use mathlib.Core.Bool.{Bool, true, false, and-false, true≢false}
use mathlib.Core.Logic.{◌≢◌, ◌⊎◌, inl, inr, ⊎_elim}
use mathlib.Core.List.{List, [], ◌∷◌, ◌++◌, map, Memᴰ}
use native.Mathlib.Omega.{arith}
use lib.ListN.{length, drop, length-append}
use lib.Dec.{ltb, leb, eqb}
use borrow.Author.Tests.{ne_eqb, le-ltb, lt-leb, leb-false}
use Rattle.lists.specs.Lists.{put, occurs}
use Rattle.std.proofs.lemmas.Bool.{cases_Bool, and_parts}
use Rattle.lists.proofs.Laws.{le?, put_same, put_cases, occurs-append}
use Rattle.lists.proofs.Those.{no_longer}
use Rattle.plain.specs.Sizes.{mailboxes, buffers, longest, at_mailbox}
use Rattle.plain.specs.State.{Message, Settings, State, fill, held, free_buffers}
use Rattle.plain.specs.Pages.{needed, too_few}
use Rattle.plain.specs.Mailboxes.{is_full, drops, refuses, overflows, relieved, buffers_for, no_buffers}
use Rattle.plain.specs.Calls.{Call, send, Outcome, deliver, perform, on, refusals, judge, step}
use Rattle.plain.specs.Sound.{Sound}
use Rattle.plain_laws.specs.History.{Kind, falls, posts, fetches, sets, other, kind, as_one, is_done, is_dropped, is_refusal, settings_by, dropped}
use Rattle.plain_laws.specs.Mailboxes.{Remains}
use Rattle.plain_laws.proofs.Accepted.{accepts}
use Rattle.plain_laws.proofs.Calls.{judged, accepted}
use Rattle.plain_laws.proofs.Mail.{held_lost, free_there, held_not_free, past_not_free}
use Rattle.plain_laws.proofs.Refusals.{accepted_passed, unchanged, settings_after}
use Rattle.plain_laws.proofs.Seats.{head_in}
use Rattle.plain_laws.proofs.Relief.{relieved_cases, overflow_full, no_overflow}

-- ---- sends

-- one that drops does not refuse
unrefused : (m : ℕ) (s : State) → drops m s ≡ true → refuses m s ≡ false
unfolding refuses
unrefused m s e = rw e (and-false (is_full m s))

overflow_drops : (m : ℕ) (s : State) → overflows m s ≡ true → drops m s ≡ true
unfolding overflows
overflow_drops m s e = (and_parts (is_full m s) (drops m s) e).1

-- and 11 is given by one that does
pub not_11 : (s : State) (m : ℕ) (b : List ℕ) → refuses m s ≡ false → (step s (send m b)).answer.code ≢ 11
unfolding step refusals perform
not_11 s m b e = go (leb mailboxes m) (ltb longest (length b)) (refuses m s) (no_buffers m b s) e
  where
    go : (a c r d : Bool) → r ≡ false → (judge (on 3 a ∷ on 6 c ∷ on 11 r ∷ on 12 d ∷ []) s (perform s (send m b))).answer.code ≢ 11
    go true c r d z = omega arith
    go false true r d z = omega arith
    go false false true d z = absurd (true≢false z)
    go false false false true z = omega arith
    go false false false false z = omega arith

pub never_11 : (s : State) (m : ℕ) (b : List ℕ) → drops m s ≡ true → (step s (send m b)).answer.code ≢ 11
never_11 s m b e = not_11 s m b (unrefused m s e)

module _ (s : State) (k : Sound s) (m : ℕ) (o : overflows m s ≡ true) where
  -- there is an oldest message
  full : 1 ≤ length (s.box m)
  full = omega (arith, overflow_full m s o, k.settings.habits.some m)

  -- whose buffers are free once it is lost, with those that were free before
  freed : m < mailboxes → (x : Message) (l : List Message) → s.box m ≡ x ∷ l → (b : ℕ) → occurs b (free_buffers s) + occurs b x.lies ≤ occurs b (free_buffers (fill m l s))
  freed h x l e b =
      let was : held (put s.box m l) s.hand b + occurs b x.lies ≡ held s.box s.hand b = held_lost s.box s.hand b m x l h e in
      ⊎_elim
      (λ (z : buffers ≤ b). omega (arith, past_not_free s b z, k.mail.no_more_buffers b z))
      (λ (z : b < buffers). ⊎_elim
      (λ (u : 1 ≤ held (put s.box m l) s.hand b). omega (arith, k.mail.held_once b, held_not_free s b (omega arith)))
      (λ (u : held (put s.box m l) s.hand b < 1). ⊎_elim
      (λ (v : 1 ≤ held s.box s.hand b). omega (arith, k.mail.held_once b, held_not_free s b v, free_there (fill m l s) b z (omega arith)))
      (λ (v : held s.box s.hand b < 1). omega (arith, free_there s b z (omega arith), free_there (fill m l s) b z (omega arith)))
      (le? 1 (held s.box s.hand b)))
      (le? 1 (held (put s.box m l) s.hand b)))
      (le? buffers b)

  enough : m < mailboxes → (x : Message) (l : List Message) → s.box m ≡ x ∷ l → length (free_buffers s) + length x.lies ≤ length (free_buffers (fill m l s))
  enough h x l e = omega (
    arith,
    no_longer (free_buffers s ++ x.lies) (free_buffers (fill m l s)) (λ b. omega (arith, occurs-append b (free_buffers s) x.lies, freed h x l e b)),
    length-append (free_buffers s) x.lies,
  )

  pub taken : (b : List ℕ) (x : Message) (l : List Message) → s.box m ≡ x ∷ l → m < mailboxes → length b ≤ longest → needed (length b) ≤ length (free_buffers s) + length x.lies
      → is_done (step s (send m b)) ≡ true
  unfolding step refusals perform
  taken b x l e h short some =
      rw (
        lt-leb mailboxes m h,
        le-ltb longest (length b) short,
        unrefused m s (overflow_drops m s o),
        relieved_cases m s (λ t. too_few (needed (length b)) t ≡ false) (λ z. absurd (true≢false (sym o ∙ z)))
            (λ z. subst (λ (r : List Message). too_few (needed (length b)) (fill m r s) ≡ false) (sym (ap (drop 1) e)) (le-ltb (length (free_buffers (fill m l s))) (needed (length b)) (omega (arith, enough h x l e)))),
      ) refl

  pub oldest : (b : List ℕ) → is_done (step s (send m b)) ≡ true → (step s (send m b)).next.box m ≡ drop 1 (s.box m) ++ (record { lies = buffers_for m b s; bytes = b } ∷ [])
  unfolding step refusals perform
  oldest b done =
      let x : Message = record { lies = buffers_for m b s; bytes = b } in
      let p = accepted_passed s (send m b) (rw done refl) in
      ap (λ (u : Outcome). u.next.box m) (accepted (refusals s (send m b)) s (perform s (send m b)) p) ∙ queued x (leb-false mailboxes m p.0) (s.procs.queue (at_mailbox m)) refl
    where
      lost : (relieved m s).box m ≡ drop 1 (s.box m)
      lost = relieved_cases m s (λ t. t.box m ≡ drop 1 (s.box m)) (λ e. absurd (true≢false (sym o ∙ e))) (λ e. put_same s.box m (drop 1 (s.box m)))

      queued : (x : Message) → m < mailboxes → (l : List ℕ) → s.procs.queue (at_mailbox m) ≡ l → (deliver m x l (relieved m s)).box m ≡ drop 1 (s.box m) ++ (x ∷ [])
      queued x h [] e = put_same (relieved m s).box m ((relieved m s).box m ++ (x ∷ [])) ∙ ap (λ (l : List Message). l ++ (x ∷ [])) lost
      queued x h (w ∷ l) e = absurd (omega (arith, full, ap length (k.waits.boxes m w h (head_in s.settings.slice s.procs k.seated (at_mailbox m) w l e))))

-- ---- what is kept

pub keeps : (s : State) (c : Call) (m : ℕ) (x : Message) → (is_full m s ≡ false) ⊎ (drops m s ≡ false) → Memᴰ x (s.box m) → Remains m x (step s c).next
unfolding step
keeps s c m x h o = judged (Remains m x) (refusals s c) s (perform s c) (inl o) (λ p. (accepts s c).keeps m x (no_overflow m s h) o)

undropped : (m : ℕ) (s : State) (i : Kind) → overflows m s ≡ false → is_dropped m s i ≡ false
undropped m s falls e = refl
undropped m s (posts j) e = rw e (and-false (eqb j m))
undropped m s (fetches j) e = refl
undropped m s (sets j c d) e = refl
undropped m s other e = refl

mode_by : (i : Kind) (x : Settings) (m : ℕ) → x.mode m ≢ 1 → ((n : ℕ) → sets m n 1 ≡ i → ⊥) → (settings_by i x).mode m ≢ 1
mode_by falls x m h u = h
mode_by (posts j) x m h u = h
mode_by (fetches j) x m h u = h
mode_by (sets j c d) x m h u = put_cases (λ (a : ℕ). a ≢ 1) x.mode j d m (λ e z. u c (ap₂ (λ (a b : ℕ). sets a c b) e (sym z))) (λ e. h)
mode_by other x m h u = h

mode_after : (s : State) (c : Call) (m : ℕ) → s.settings.mode m ≢ 1 → ((n : ℕ) → sets m n 1 ≡ kind c → ⊥) → (step s c).next.settings.mode m ≢ 1
mode_after s c m h u = ⊎_elim
    (λ e. subst (λ (t : State). t.settings.mode m ≢ 1) (sym (unchanged s c e)) h)
    (λ e. subst (λ (x : Settings). x.mode m ≢ 1) (sym (settings_after s c e)) (mode_by (kind c) s.settings m h u))
    (cases_Bool (is_refusal (step s c).answer))

pub none_dropped : (s : State) (m : ℕ) (cs : List Call) → s.settings.mode m ≢ 1 → ((n : ℕ) → Memᴰ (sets m n 1) (map kind cs) → ⊥) → dropped m s cs ≡ 0
unfolding dropped
none_dropped s m [] h u = refl
none_dropped s m (c ∷ cs) h u =
    rw (undropped m s (kind c) (no_overflow m s (inr (ne_eqb (s.settings.mode m) 1 h))))
    (omega (arith, ap as_one (and-false (is_done (step s c))), none_dropped (step s c).next m cs (mode_after s c m h (λ n e. u n (Memᴰ.head e))) (λ n i. u n (Memᴰ.tail i))))
