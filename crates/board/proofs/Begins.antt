-- The fresh start in an area: 14 for another length, and else as the kernel's.
-- Assumes nothing.
use Prim.Native.Nat.{ℕ}
use mathlib.Core.Bool.{true, false, true≢false}
use mathlib.Core.List.{List}
use mathlib.Core.Logic.{◌≢◌, ⊎_elim}
use mathlib.Core.Path.{◌≡◌, refl, sym, ap, ◌∙◌, subst}
use native.Mathlib.Omega.{arith}
use lib.ListN.{length}
use borrow.Author.Tests.{eq-eqb, ne_eqb}
use Rattle.plain.specs.Calls as Plain
use Rattle.plain.specs.Start.{Set, slice_of, fresh_start}
use Rattle.plain.specs.State.{start, fresh}
use Rattle.plain_laws.proofs.Refusals.{first-given, find}
use Rattle.plain_laws.proofs.Calls.{accepted}
use Rattle.plain_laws.proofs.Start.{set-passes, start_cases, start_taken}
use Rattle.plain_laws.specs.History.{Passed, First, is_refusal}
use Rattle.promise.specs.Promise.{not_sound}
use Rattle.kernel.specs.Holds.{Holds}
use Rattle.kernel.specs.Promise.{said, Starts}
use Rattle.verdicts.specs.declared.Answer.{Answer}
use Rattle.kernel.specs.declared.Done.{Done}
use Rattle.image.specs.Image.{size}
use Rattle.board.specs.Area.{Lies, begin_refusals, Begins, HandedBack}

pub begins_elsewhere : {n : ℕ} (area : List ℕ) {after : List ℕ} {a : Answer} → (length area ≡ size → ⊥) → after ≡ area → said a ≡ not_sound → Begins n area after a
begins_elsewhere area o e z = record {
  answer = rw (ne_eqb (length area) size o) z;
  begun = λ w. absurd (true≢false (sym (ap is_refusal z) ∙ w));
  refused = λ w. e;
}

module _ (n : ℕ) (area : List ℕ) (d : Done) (h : length area ≡ size) (s : Starts n d) where
  told : {a : Plain.Answer} → a ≡ said d.answer → a ≡ (Plain.judge (begin_refusals n area) fresh (Plain.done 0 (start (slice_of n)))).answer
  unfolding fresh_start
  told e = rw (eq-eqb (length area) size h) (e ∙ s.answer)

  -- it is refused where it is answered with another code than 0
  by_code : {P : Type 0} → (d.answer.code ≢ 0 → is_refusal (said d.answer) ≡ true → P) → (d.answer.code ≡ 0 → fresh_start n ≡ Plain.done 0 (start (slice_of n)) → P) → P
  by_code {P} f g = start_cases n (λ o. said d.answer ≡ o.answer → P)
      (λ y e. f (λ z. let w : ◌≡◌ {A = ℕ} 16 0 = sym (ap (λ (b : Plain.Answer). b.code) e) ∙ z in omega arith) (ap is_refusal e))
      (λ z e. g (ap (λ (b : Plain.Answer). b.code) e) (start_taken n z)) s.answer

  pub begins-refused : {after : List ℕ} {a : Answer} → d.answer.code ≢ 0 → after ≡ area → a ≡ d.answer → Begins n area after a
  begins-refused z e told-so = record {
    answer = told (ap said told-so);
    begun = λ w. absurd (by_code (λ y r. true≢false (sym (ap (λ (b : Answer). is_refusal (said b)) told-so ∙ r) ∙ w)) (λ y t. z y));
    refused = λ w. e;
  }

  pub begins-anew : {after : List ℕ} {a : Answer} → d.answer.code ≡ 0 → HandedBack d area after a → Begins n area after a
  begins-anew z b =
      let taken : fresh_start n ≡ Plain.done 0 (start (slice_of n)) = by_code (λ y r. absurd (y z)) (λ y t. t) in
      record {
        answer = told (ap said b.answer);
        begun = λ w. record { kernel = d.state; sized = b.sized; bytes = sym (b.written.whole h); holds = subst (λ (o : Plain.Outcome). Holds d.state o.next) taken s.next };
        refused = λ w. absurd (true≢false (sym w ∙ ap is_refusal (ap said b.answer ∙ s.answer ∙ ap (λ (o : Plain.Outcome). o.answer) taken)));
      }

-- ---- what the promise says

module _ {n : ℕ} {area after : List ℕ} {a : Answer} (b : Begins n area after a) where
  abbrev begun : Plain.Outcome
  begun = Plain.done 0 (start (slice_of n))

  pub begin-given : (r : Plain.Refusal) → First (begin_refusals n area) r → said a ≡ (Plain.refused r fresh).answer
  begin-given r f = b.answer ∙ ap (λ (rs : List Plain.Refusal). (Plain.judge rs fresh begun).answer) f.whole
      ∙ ap (λ (o : Plain.Outcome). o.answer) (first-given f.before r f.behind fresh begun f.passed f.holds)

  -- where none holds it is not refused
  passed_begins : Passed (begin_refusals n area) → is_refusal (said a) ≡ false
  passed_begins p = ap is_refusal (b.answer ∙ ap (λ (o : Plain.Outcome). o.answer) (accepted (begin_refusals n area) fresh begun p))

  pub begin_only : is_refusal (said a) ≡ true → (r : Plain.Refusal) × First (begin_refusals n area) r
  begin_only e = ⊎_elim (λ f. f) (λ (p : Passed (begin_refusals n area)). absurd (true≢false (sym e ∙ passed_begins p))) (find (begin_refusals n area))

  pub begin-set : length area ≡ size → Set (slice_of n) → Lies after (start (slice_of n))
  begin-set h z = b.begun (passed_begins (rw (eq-eqb (length area) size h) refl, (set-passes n z, tt)))
