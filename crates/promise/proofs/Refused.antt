-- Which refusal a call is answered with, by what it is lent.
-- Assumes nothing.
use Prim.Native.Nat.{ℕ}
use mathlib.Core.Bool.{true, false, true≢false}
use mathlib.Core.List.{List, ◌∷◌}
use mathlib.Core.Logic.{⊎_elim}
use mathlib.Core.Path.{◌≡◌, refl, sym, ap, ◌∙◌, subst}
use Rattle.plain.specs.Calls as Plain
use Rattle.plain.specs.State.{State}
use Rattle.plain_laws.proofs.Accepted.{accepts}
use Rattle.plain_laws.proofs.Calls.{accepted}
use Rattle.plain_laws.proofs.Refusals.{find, first-given, own-codes, behind_16}
use Rattle.plain_laws.specs.History.{Passed, First, codes, in_order, order, is_refusal}
use Rattle.promise.specs.Lent.{Lent, lends}
use Rattle.promise.specs.Promise.{Promised, sound, unsound, with_store, refusals_of}
use Rattle.promise.specs.Theorems.{Heard, Step, RefusedRightly}
use Rattle.promise.proofs.Steps.{does, made}

-- what a call that is lent so does is judged by all of its refusals at once
does-judge : (l : Lent) (store : List ℕ) (c : Plain.Call) (s : State) → does l store c s ≡ Plain.judge (refusals_of l store c s) s (Plain.perform s c)
unfolding with_store Plain.step
does-judge Lent.nothing store c s = refl
does-judge (Lent.bytes b at) store c s = refl
does-judge (Lent.room n) store c s = refl

module _ (l : Lent) (store : List ℕ) (c : Plain.Call) (s : State) where
  abbrev rs : List Plain.Refusal
  rs = refusals_of l store c s

  pub gives : (r : Plain.Refusal) → First rs r → does l store c s ≡ Plain.refused r s
  gives r f = does-judge l store c s ∙ rw f.whole (first-given f.before r f.behind s (Plain.perform s c) f.passed f.holds)

  -- where none holds it is not refused
  passes : Passed rs → is_refusal (does l store c s).answer ≡ false
  passes p = ap (λ (o : Plain.Outcome). is_refusal o.answer) (does-judge l store c s ∙ accepted rs s (Plain.perform s c) p) ∙ (accepts s c).code

  pub refuses : is_refusal (does l store c s).answer ≡ true → (r : Plain.Refusal) × First rs r
  refuses e = ⊎_elim (λ f. f) (λ (p : Passed rs). absurd (true≢false (sym e ∙ passes p))) (find rs)

in_order_lem : (l : Lent) (store : List ℕ) (c : Plain.Call) (s : State) → in_order (14 ∷ codes (refusals_of l store c s)) order ≡ true
in_order_lem Lent.nothing store c s = behind_16 s c
in_order_lem (Lent.bytes b at) store c s = (own-codes s c).0
in_order_lem (Lent.room n) store c s = (own-codes s c).0

module _ {K : Type 0} (Holds : K → State → Type 0) where
  pub refused_rightly : {k k' : K} {store store' : List ℕ} {c : Plain.Call} {h : Heard} → Step Holds k store c h k' store' → RefusedRightly Holds k store c h.0
  refused_rightly {store = store} {c = c} p = go (made Holds p)
    where
      go : {Later : State → Type 0} {Same : Type 0} {k k' : K} {a : Plain.Answer} → Promised Holds (does (lends c) store c) Later Same k k' a → RefusedRightly Holds k store c a
      go (sound i h) = record {
        unsound = λ n. absurd (n i);
        given = λ s r H S f. (h s H S).0.answer ∙ ap (λ (o : Plain.Outcome). o.answer) (gives (lends c) store c s r f);
        only = λ s H S e. refuses (lends c) store c s (subst (λ (x : Plain.Answer). is_refusal x ≡ true) (h s H S).0.answer e);
        ordered = in_order_lem (lends c) store c;
      }
      go (unsound n e a z) = record {
        unsound = λ m. a;
        given = λ s r H S f. absurd (n (s, H, S));
        only = λ s H S x. absurd (n (s, H, S));
        ordered = in_order_lem (lends c) store c;
      }
