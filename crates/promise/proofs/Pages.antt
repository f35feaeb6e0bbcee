-- Over a store that holds the messages each byte of them stands in its place, and a send writes its own there.
-- Assumes nothing.
use Prim.Native.Nat.{ℕ, ◌≤◌}
use mathlib.Core.Bool.{true}
use mathlib.Core.List.{List}
use mathlib.Core.Option.{Option}
use mathlib.Core.Path.{◌≡◌, sym, ap, ◌∙◌}
use native.Mathlib.Omega.{arith}
use lib.ListN.{length, get_or}
use lib.Seq.{get_or-take}
use borrow.Author.Tests.{eq-eqb, eqb-false}
use Rattle.plain.specs.Calls as Plain
use Rattle.plain.specs.Mailboxes.{relieved, buffers_for}
use Rattle.plain.specs.Pages.{Whole}
use Rattle.plain.specs.Sizes.{buffers, store_size}
use Rattle.plain.specs.Sound.{Sound}
use Rattle.plain.specs.State.{Message, State}
use Rattle.plain_laws.proofs.Mail.{Fits}
use Rattle.plain_laws.proofs.Refusals.{judge_cases, nonzero}
use Rattle.plain_laws.specs.History.{is_done}
use Rattle.promise.specs.Pages.{InPlace, Writes, Paged}
use Rattle.promise.specs.Promise.{with_store, poured, gathered, store_after, Has, Stored}
use Rattle.promise.specs.Theorems.{Heard, Step}
use Rattle.promise.proofs.Buffers.{gathered-at, poured-at, poured_elsewhere}
use Rattle.promise.proofs.Messages.{room_for, of_queued, of_hands}
use Rattle.promise.proofs.Places.{AreBuffers}
use Rattle.promise.proofs.Runs.{meets, whole_store}
use Rattle.promise.proofs.Steps.{made}
use Rattle.promise.proofs.Stored.{posted, ComesIn, comes_in}

module _ (store : List ℕ) (long : length store ≡ store_size) where
  in_place : (x : Message) → AreBuffers x.lies → Whole x → Has store x → InPlace store x
  in_place x are w has i h =
      sym (gathered-at x.lies store long are i (omega (arith, room_for x w)))
      ∙ (sym (get_or-take (length x.bytes) (gathered store x.lies) i 0 h) ∙ ap (λ (b : List ℕ). get_or b i 0) has)

  writes : (box : ℕ → List Message) (hand : ℕ → Option Message) (x : Message) → Fits box hand x → Writes store x (poured store x.lies x.bytes)
  writes box hand x f = record {
    there = poured-at x.lies store x.bytes long f.range (λ j. omega (arith, f.once j)) (room_for x f.whole);
    elsewhere = poured_elsewhere x.lies store x.bytes long f.range;
  }

-- the message of a send that is done may come in
done_in : (s : State) → Sound s → (m : ℕ) (b : List ℕ) → (Plain.step s (Plain.send m b)).answer.code ≡ 0 → ComesIn m b s
unfolding Plain.step
done_in s k m b =
    let c : Plain.Call = Plain.send m b in
    judge_cases (λ (o : Plain.Outcome). o.answer.code ≡ 0 → ComesIn m b s) (Plain.refusals s c) s (Plain.perform s c) (nonzero s c)
    (λ r e z. absurd (eqb-false r.code 0 e z)) (λ p z. comes_in s k m b p)

module _ {K : Type 0} (Holds : K → State → Type 0) where
  sent : {k k' : K} {store later : List ℕ} {h : Heard} (s : State) → Holds k s → Sound s → length store ≡ store_size
      → (m : ℕ) (b : List ℕ) → Step Holds k store (Plain.send m b) h k' later → h.0.code ≡ 0 → Writes store (posted m b s) later
  sent {store = store} {later} s H S long m b p z =
      let o : Plain.Outcome = with_store store (Plain.send m b) s in
      let g = meets Holds (made Holds p) s H S in
      let code : o.answer.code ≡ 0 = ap (λ (a : Plain.Answer). a.code) (sym g.0.answer) ∙ z in
      let is-done : is_done o ≡ true = eq-eqb o.answer.code 0 code in
      let left : later ≡ store_after store o (buffers_for m b s) b = ap (λ (y : List ℕ × List ℕ). y.1) g.1 in
      let fits = done_in s S m b (ap (λ (o : Plain.Outcome). o.answer.code) (sym (whole_store store (Plain.send m b) s long)) ∙ code) in
      rw (rw is-done at left) (writes store long (relieved m s).box (relieved m s).hand (posted m b s) fits)

  pub paged : {k : K} {store : List ℕ} (s : State) → Holds k s → Sound s → Stored store s → Paged Holds s k store
  paged {k} {store} s H S T = record {
    queued = of_queued (λ j. buffers ≤ j) (in_place store T.long) s S S.mail.no_more_buffers T.queued;
    all_in_hands = of_hands (λ j. buffers ≤ j) (in_place store T.long) s S S.mail.no_more_buffers T.all_in_hands;
    sent = λ m b h k' later p z. sent s H S T.long m b p z;
  }
