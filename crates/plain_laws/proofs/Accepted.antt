-- What every call does where nothing refuses it: it answers 0 or 32, changes settings by its kind, and what it does to a mailbox is counted; what does not overflow keeps its messages.
-- Assumes nothing.
use Prim.Native.Nat.{ℕ, zero, suc, ◌+◌}
use mathlib.Core.Path.{◌≡◌, refl, sym, ap, ◌∙◌, subst}
use mathlib.Core.Bool.{Bool, true, false, ◌&&◌, true≢false}
use mathlib.Core.Logic.{◌≢◌, ◌⊎◌, inl, inr, ⊎_elim}
use mathlib.Core.List.Memᴰ
use mathlib.Core.List.{List, [], ◌∷◌, ◌++◌, Memᴰ}
use mathlib.Core.Option.{some}
use native.Mathlib.Omega.{arith}
use lib.ListN.{length, length-append}
use borrow.Author.Tests.{eq-eqb, ne_eqb}
use Rattle.std.proofs.lemmas.Bool.{cases_eq}
use Rattle.lists.proofs.Laws.{put_same, put_other, put_cases}
use Rattle.lists.specs.Lists.{put}
use Rattle.plain.specs.Sizes.{at_mailbox, at_semaphore}
use Rattle.plain.specs.State.{Message, State}
use Rattle.plain.specs.Mailboxes.{overflows, relieved, buffers_for}
use Rattle.plain.specs.Calls.{Call, create, stop, end, yield, class, tick, mailbox, send, receive, read, release, signal, wait, Outcome, caller, done, deliver, fetch, wake, claim, perform}
use Rattle.plain_laws.specs.History.{kind, Kind, posts, fetches, other, as_one, is_send, is_gone, is_dropped, settings_by, is_done, is_refusal}
use Rattle.plain_laws.specs.Mailboxes.{Remains}
use Rattle.plain_laws.proofs.Relief.{relieved_cases, relieved_other, relieved-length}

-- what a call of this kind does to mailbox m
abbrev pub Even : ℕ → State → Kind → Outcome → Type 0
Even m s i o = as_one (is_done o && is_send m i) + length (s.box m) ≡ length (o.next.box m) + as_one (is_done o && is_gone m s i) + as_one (is_done o && is_dropped m s i)

pub record Accepts (s : State) (i : Kind) (o : Outcome) : Type 0 where
  pub code : is_refusal o.answer ≡ false
  pub settings : o.next.settings ≡ settings_by i s.settings
  pub even : (m : ℕ) → Even m s i o
  pub keeps : (m : ℕ) (x : Message) → overflows m s ≡ false → Memᴰ x (s.box m) → Remains m x o.next

-- a call that is not counted leaves the mailboxes alone
alone : (s : State) (o : Outcome) → is_refusal o.answer ≡ false → o.next.settings ≡ s.settings → o.next.box ≡ s.box → Accepts s other o
alone s o a b e = record { code = a; settings = b; even = λ m. rw e (go m (is_done o)); keeps = λ m x z i. inl (rw e i) }
  where
    go : (m : ℕ) (t : Bool) → as_one (t && false) + length (s.box m) ≡ length (s.box m) + as_one (t && false) + as_one (t && false)
    go m true = omega arith
    go m false = omega arith

-- a call that is counted at mailbox i
at-box : (i : ℕ) (s : State) (k : Kind) (o : Outcome) → Even i s k o → ((m : ℕ) → i ≢ m → Even m s k o) → (m : ℕ) → Even m s k o
at-box i s k o here elsewhere m = ⊎_elim (λ (e : i ≡ m). subst (λ (j : ℕ). Even j s k o) e here) (λ d. elsewhere m d) (cases_eq i m)

-- mailbox i, which may have lost its oldest message, gets another one last, or its first waiter gets that
delivers : (i : ℕ) (x : Message) (l : List ℕ) (s : State) → s.procs.queue (at_mailbox i) ≡ l → Accepts s (posts i) (done 0 (deliver i x l (relieved i s)))
delivers i x [] s e =
    let t : State = relieved i s in
    let o : Outcome = done 0 (deliver i x [] t) in
    record {
      code = refl;
      settings = relieved_cases i s (λ t. t.settings ≡ s.settings) (λ z. refl) (λ z. refl);
      even = at-box i s (posts i) o (rw (eq-eqb i i refl, e) (omega (arith, length-append (t.box i) (x ∷ []), relieved-length i s)))
          (λ m d. rw (ne_eqb i m d, put_other t.box i (t.box i ++ (x ∷ [])) m (λ n. d (sym n)), relieved_other i s m (λ n. d (sym n))) (omega arith));
      keeps = λ m y z o. inl (put_cases (Memᴰ y) t.box i (t.box i ++ (x ∷ [])) m
          (λ d. Memᴰ.append_left (x ∷ []) (relieved_cases i s (λ t. Memᴰ y (t.box i)) (λ _. subst (λ (j : ℕ). Memᴰ y (s.box j)) d o) (λ w. absurd (true≢false (sym w ∙ subst (λ (j : ℕ). overflows j s ≡ false) d z)))))
          (λ d. rw (relieved_other i s m d) o));
    }
delivers i x (w ∷ l) s e =
    let o : Outcome = done 0 (deliver i x (w ∷ l) (relieved i s)) in
    record {
      code = refl;
      settings = relieved_cases i s (λ t. t.settings ≡ s.settings) (λ z. refl) (λ z. refl);
      even = at-box i s (posts i) o (rw (eq-eqb i i refl, e) (omega (arith, relieved-length i s))) (λ m d. rw (ne_eqb i m d, relieved_other i s m (λ n. d (sym n))) (omega arith));
      keeps = λ m y z o. inl (kept m y z o);
    }
  where
    kept : (m : ℕ) (y : Message) → overflows m s ≡ false → Memᴰ y (s.box m) → Memᴰ y ((relieved i s).box m)
    kept m y z o = relieved_cases i s (λ t. Memᴰ y (t.box m)) (λ _. o)
        (λ u. ⊎_elim
        (λ (d : m ≡ i). absurd (true≢false (sym u ∙ subst (λ (j : ℕ). overflows j s ≡ false) d z)))
        (λ (d : m ≢ i). rw (put_other s.box i _ m d) o)
        (cases_eq m i))

-- the first message goes into the caller's hand, or the caller waits
fetched : (i : ℕ) (l : List Message) (s : State) → s.box i ≡ l → Accepts s (fetches i) (fetch i l s)
fetched i [] s e = record { code = refl; settings = refl; even = λ m. omega arith; keeps = λ m x z o. inl o }
fetched i (x ∷ l) s e = record {
  code = refl;
  settings = refl;
  even = at-box i s (fetches i) (fetch i (x ∷ l) s) (rw (eq-eqb i i refl) (omega (arith, ap length e))) (λ m d. rw (ne_eqb i m d, put_other s.box i l m (λ n. d (sym n))) (omega arith));
  keeps = λ m y z o. ⊎_elim
      (λ (d : m ≡ i). rw (d, put_same s.box i l) (here y (subst (λ (j : ℕ). Memᴰ y (s.box j)) d o)))
      (λ (d : m ≢ i). inl (rw (put_other s.box i l m d) o))
      (cases_eq m i);
}
  where
    here : (y : Message) → Memᴰ y (s.box i) → Memᴰ y l ⊎ ((p : ℕ) × (put s.hand (caller s) (some x) p ≡ some y))
    here y o = ⊎_elim
        (λ d. inr (caller s, put_same s.hand (caller s) (some x) ∙ ap some (sym d)))
        (λ r. inl r)
        (Memᴰ.cases_cons (subst (Memᴰ y) e o))

wakes : (k : ℕ) (l : List ℕ) (s : State) → Accepts s other (done 0 (wake k l s))
wakes k [] s = alone s _ refl refl refl
wakes k (w ∷ l) s = alone s _ refl refl refl

claims : (k n : ℕ) (s : State) → Accepts s other (claim k n s)
claims k zero s = alone s _ refl refl refl
claims k (suc n) s = alone s _ refl refl refl

pub accepts : (s : State) (c : Call) → Accepts s (kind c) (perform s c)
unfolding perform
accepts s (create c) = alone s _ refl refl refl
accepts s (stop p) = alone s _ refl refl refl
accepts s end = alone s _ refl refl refl
accepts s yield = alone s _ refl refl refl
accepts s (class c) = alone s _ refl refl refl
accepts s tick = record { code = refl; settings = refl; even = λ m. omega arith; keeps = λ m x z o. inl o }
accepts s (mailbox m c d) = record { code = refl; settings = refl; even = λ i. omega arith; keeps = λ i x z o. inl o }
accepts s (send m b) = delivers m (record { lies = buffers_for m b s; bytes = b }) (s.procs.queue (at_mailbox m)) s refl
accepts s (receive m) = fetched m (s.box m) s refl
accepts s (read room) = alone s _ refl refl refl
accepts s release = alone s _ refl refl refl
accepts s (signal k) = wakes k (s.procs.queue (at_semaphore k)) s
accepts s (wait k) = claims k (s.count k) s
