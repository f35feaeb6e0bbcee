-- Laws of what is told: the answer to the question on the board, in the words of the promise.
-- Assumes nothing.
use Prim.Native.Nat.{ℕ, ◌<◌}
use mathlib.Core.Bool.{Bool, true, false, true≢false}
use mathlib.Core.List.{List}
use mathlib.Core.Logic.{◌≢◌, ⊎_elim}
use mathlib.Core.Path.{◌≡◌, refl, sym, ap, ◌∙◌}
use native.Mathlib.Omega.{arith}
use Rattle.std.specs.Prelude.{Option, Some, None, is_some}
use Rattle.std.proofs.lemmas.Bool.{cases_Bool}
use Rattle.plain.specs.Calls.{Answer}
use Rattle.plain.specs.Names.{bare, names}
use Rattle.plain.specs.Sizes.{processes}
use Rattle.plain.specs.Sound.{Sound}
use Rattle.plain.specs.State.{State}
use Rattle.plain.specs.Why as Plain
use Rattle.plain.specs.Why.{why}
use Rattle.plain_laws.proofs.Names.{named}
use Rattle.promise.specs.Promise as Promise
use Rattle.reasons.proofs.Theorems.{told-reason}
use Rattle.reasons.specs.Reasons.{meant, meant_by, reason_told, Explains}
use Rattle.reasons.specs.declared.Explained as Code
use Rattle.reasons.specs.declared.Reason.{Reason}
use Rattle.kernel.specs.Promise.{said}
use Rattle.board.specs.Area.{Lies}
use Rattle.wording.specs.Words.{sentence}
use Rattle.telling.specs.Promise.{not_sound, Refused, refused}
use Rattle.why.specs.Promise.{no_process, Explained, unsound, nobody, known}

-- the plain kernel refuses it for what is no name, with 1, and for nothing else
given : (s : State) (n : ℕ) → names s.births n ≡ true → (why s n).answer.code ≡ 0
unfolding why
given s n h = rw h

refused_with_1 : (s : State) (n : ℕ) → names s.births n ≡ false → (why s n).answer.code ≡ 1
unfolding why
refused_with_1 s n h = rw h

-- a reason that is told is that of a name, and none is told of what is no name
some≢none : {A : Type 0} {x : A} → Some x ≡ None → ⊥
some≢none e = true≢false (ap is_some e)

abbrev value : Plain.Reason → Option Plain.Reason → Plain.Reason
value d (Some r) = r
value d None = d

was_told : (s : State) (n : ℕ) (r : Plain.Reason) → Some r ≡ reason_told s n → (names s.births n ≡ true) × (r ≡ Plain.reason s (bare n))
unfolding why
was_told s n r e = ⊎_elim
    (λ (y : names s.births n ≡ true). (y, ap (value r) (e ∙ told-reason s n y)))
    (λ (z : names s.births n ≡ false). absurd (some≢none (e ∙ rw z refl)))
    (cases_Bool (names s.births n))

not_told : (s : State) (n : ℕ) → None ≡ reason_told s n → names s.births n ≡ false
not_told s n e = ⊎_elim (λ (y : names s.births n ≡ true). absurd (some≢none (sym (told-reason s n y) ∙ sym e))) (λ z. z) (cases_Bool (names s.births n))

module _ (area : List ℕ) (n : ℕ) (w : Code.Explained) where
  abbrev Answered : Type 0
  Answered = (s : State) → Lies area s → Sound s → Promise.Gives Lies (why s n) area (said w.answer) × (meant_by w.reason ≡ reason_told s n)

  code_is : Answered → (s : State) → Lies area s → Sound s → w.answer.code ≡ (why s n).answer.code
  code_is h s l k = ap (λ (x : Answer). x.code) (h s l k).0.answer

  -- what is told says whether n is a name
  is_told : Answered → (r : Reason) → w.reason ≡ Some r → (s : State) → Lies area s → Sound s → (names s.births n ≡ true) × (meant r ≡ Plain.reason s (bare n))
  is_told h r e s l k = was_told s n (meant r) (sym (ap meant_by e) ∙ (h s l k).1)

  no_name : Answered → w.reason ≡ None → (s : State) → Lies area s → Sound s → names s.births n ≡ false
  no_name h e s l k = not_told s n (sym (ap meant_by e) ∙ (h s l k).1)

  pub is_process : (r : Reason) → w.reason ≡ Some r → Explains Lies area n w → bare n < processes
  is_process r e (Promise.sound i h) = (named i.0.births n (is_told h r e i.0 i.1 i.2).0).0
  is_process r e (Promise.unsound d m a none) = absurd (some≢none (sym e ∙ none))

  pub is_known : (p : ℕ) → p ≡ bare n → (r : Reason) → w.reason ≡ Some r → Explains Lies area n w → Explained area n true (sentence p (meant r))
  is_known p is r e (Promise.sound i h) = rw is (known i (λ s l k. let y = is_told h r e s l k in (y.0, ap (sentence (bare n)) y.1)))
  is_known p is r e (Promise.unsound d m a none) = absurd (some≢none (sym e ∙ none))

  pub is_not_sound : w.answer.code ≡ 14 → Explains Lies area n w → (good : Bool) (text : List ℕ) → Refused not_sound good text → Explained area n good text
  is_not_sound e (Promise.sound i h) good text r = ⊎_elim
      (λ (y : names i.0.births n ≡ true). absurd (omega (arith, e, code_is h i.0 i.1 i.2, given i.0 n y)))
      (λ (z : names i.0.births n ≡ false). absurd (omega (arith, e, code_is h i.0 i.1 i.2, refused_with_1 i.0 n z)))
      (cases_Bool (names i.0.births n))
  is_not_sound e (Promise.unsound d m a none) good text refused = unsound d

  pub is_nobody : w.answer.code ≢ 14 → w.reason ≡ None → Explains Lies area n w → (good : Bool) (text : List ℕ) → Refused no_process good text → Explained area n good text
  is_nobody d e (Promise.sound i h) good text refused = nobody i (no_name h e)
  is_nobody d e (Promise.unsound m c a none) good text r = absurd (d (ap (λ (x : Answer). x.code) a))
