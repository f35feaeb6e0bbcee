-- The theorems, from their laws.
-- Assumes nothing.
use Prim.Native.Nat.{ℕ}
use mathlib.Core.Path.{◌≡◌, refl, sym, ap, ◌∙◌, subst}
use mathlib.Core.Bool.{true≢false}
use mathlib.Core.List.{List, [], ◌∷◌, map}
use native.Mathlib.Omega.{arith}
use Rattle.lists.specs.Lists.{total, lowest}
use Rattle.plain.specs.State.{Settings, start, usual, spots, free_process}
use Rattle.plain.specs.Names.{raised, name, bare}
use Rattle.plain.specs.Names as Plain
use Rattle.plain.specs.Runs.{choose, choose_below, go_to, join, stand_down, make_ready, remove, halt}
use Rattle.plain.specs.Calls.{Call, Answer, create, stop, yield, perform, refusals, step, answers, after}
use Rattle.plain_laws.specs.History.{moments, overtaken, last_first}
use Rattle.plain_laws.specs.Reasons.{OneReason}
use Rattle.plain_laws.specs.Names.{Names}
use Rattle.plain_laws.specs.Mailboxes.{Mailboxes}
use Rattle.plain_laws.specs.Waiters.{NoBarging}
use Rattle.plain_laws.specs.Theorems.{Fair, Soundness, FreshStarts, Refusals, Messages, Fairness}
use Rattle.plain_laws.specs.Useless.{Kernel, replies, AnswersAsPlain, UselessShutOut}
use Rattle.plain_laws.proofs.Sound.{usual_set, start_sound, step_sound, after_sound}
use Rattle.plain_laws.proofs.Refusals.{given, only, unchanged, slice_stays, settings_after, after-slice, in_order_lem}
use Rattle.plain_laws.proofs.Start.{start_taken, start-refused, begun_sound}
use Rattle.plain_laws.proofs.Messages.{counted_from_start}
use Rattle.plain_laws.proofs.Fair.{fair}
use Rattle.plain_laws.proofs.Lives as Lives
use Rattle.plain_laws.proofs.Mailboxes as Boxes
use Rattle.plain_laws.proofs.Waiters.{nobody_barges}
use Rattle.plain_laws.proofs.Why as Why

pub soundness : Soundness
soundness = record { usual_set = usual_set; at_first = start_sound; kept = λ s c k. step_sound s k c; always = λ x cs z. after_sound (start x) cs (start_sound x z); slice_stays = slice_stays; settings_after = settings_after }

pub fresh_starts : FreshStarts
fresh_starts = record { taken = start_taken; given = start-refused; sound = begun_sound; ordered = λ n. refl }

pub refusals-given : Refusals
refusals-given = record { given = given; only = only; unchanged = unchanged; ordered = in_order_lem }

pub messages : Messages
messages = counted_from_start

pub fairness : Fairness
fairness x cs later p z o = subst (λ (n : ℕ). Fair n (after (start x) cs).procs p (moments (after (start x) cs) later)) (after-slice (start x) cs)
    (fair (after (start x) cs) p later (after_sound (start x) cs (start_sound x z)) o)

-- ---- creates from fresh

abbrev three : List Call
three = create 2 ∷ create 2 ∷ create 2 ∷ []

abbrev codes : List (Answer × List ℕ) → List ℕ
codes l = map (λ (a : Answer × List ℕ). a.0.code) l

abbrev numbers : List (Answer × List ℕ) → List ℕ
numbers l = map (λ (a : Answer × List ℕ). a.0.number) l

plainly : (x : Settings) → (codes (answers (start x) three) ≡ 0 ∷ 0 ∷ 0 ∷ []) × (numbers (answers (start x) three) ≡ 257 ∷ 258 ∷ 259 ∷ [])
unfolding answers step refusals perform raised name join stand_down make_ready spots total lowest free_process
plainly x = (refl, refl)

-- a class that there is none of, after one create
refused-later : (x : Settings) → codes (answers (start x) (create 2 ∷ create 5 ∷ [])) ≡ 0 ∷ 2 ∷ []
unfolding answers step refusals perform raised name join stand_down make_ready spots total lowest free_process
refused-later x = refl

apart : (a b c : ℕ) → a ∷ b ∷ c ∷ [] ≡ 257 ∷ 258 ∷ 259 ∷ [] → (a ≡ b → ⊥) × (b ≡ c → ⊥)
apart a b c e =
    let x : a ≡ 257 = cc in
    let y : b ≡ 258 = cc in
    let z : c ≡ 259 = cc in
    ((λ d. omega arith), (λ d. omega arith))

module _ (x : Settings) (K : Kernel) (h : AnswersAsPlain x K) where
  abbrev m₁ : K.Memory
  m₁ = K.next K.start (create 2)

  abbrev m₂ : K.Memory
  m₂ = K.next m₁ (create 2)

  abbrev number_at : K.Memory → ℕ
  number_at m = (K.reply m (create 2)).0.number

  numbered : numbers (replies K K.start three) ≡ 257 ∷ 258 ∷ 259 ∷ []
  numbered = ap numbers (h three) ∙ (plainly x).1

  -- three creates give three numbers
  differ : ((number_at K.start ≡ number_at m₁) → ⊥) × ((number_at m₁ ≡ number_at m₂) → ⊥)
  differ = apart (number_at K.start) (number_at m₁) (number_at m₂) numbered

  accepted : (K.reply K.start (create 2)).0.code ≡ 0
  accepted = let e : codes (replies K K.start three) ≡ 0 ∷ 0 ∷ 0 ∷ [] = ap codes (h three) ∙ (plainly x).0 in cc

  of_no_class : (K.reply m₁ (create 5)).0.code ≡ 2
  of_no_class = let e : codes (replies K K.start (create 2 ∷ create 5 ∷ [])) ≡ 0 ∷ 2 ∷ [] = ap codes (h (create 2 ∷ create 5 ∷ [])) ∙ refused-later x in cc

last_goes_first : overtaken [] 2 (map last_first (moments (after (start usual) (create 2 ∷ create 2 ∷ [])) (yield ∷ []))) ≡ 1
unfolding overtaken moments after step refusals perform choose choose_below go_to join stand_down make_ready spots total lowest free_process
last_goes_first = refl

pub useless_shut_out : UselessShutOut
useless_shut_out = record {
  refuses_all = λ x K r h. true≢false (sym (r K.start (create 2)) ∙ rw (accepted x K h) refl);
  constant = λ x K a r h. (differ x K h).0 (ap (λ (x : Answer × List ℕ). x.0.number) (r K.start (create 2) ∙ sym (r (m₁ x K h) (create 2))));
  never_moves = λ x K r h. (differ x K h).0 (ap (number_at x K h) (sym (r K.start (create 2))));
  first_only = λ x K r h. (differ x K h).1 (ap (number_at x K h) (sym (r (create 2) (create 2))));
  success_only = λ x K r h. let a = r (create 2) (create 5) in let b = of_no_class x K h in omega arith;
  last_goes_first = last_goes_first;
}

pub one-reason : OneReason
one-reason = record { holds = λ s p S h. Why.holds s S p; only = λ s p r S h w. Why.only s S p r w; told_apart = Why.told_apart }

-- ---- names

-- after a create, what a stop by the name is answered, and one by the bare number
stops_plainly : (x : Settings) → (codes (answers (start x) (create 2 ∷ stop 257 ∷ [])) ≡ 0 ∷ 0 ∷ []) × (codes (answers (start x) (create 2 ∷ stop 1 ∷ [])) ≡ 0 ∷ 1 ∷ [])
unfolding answers step refusals perform raised name bare Plain.names choose choose_below join stand_down make_ready remove halt spots total lowest free_process
stops_plainly x = (refl, refl)

one_is_bare : bare 257 ≡ 1
unfolding bare
one_is_bare = refl

module _ (x : Settings) (K : Kernel) (h : AnswersAsPlain x K) where
  abbrev stop_code : ℕ → ℕ
  stop_code n = (K.reply (m₁ x K h) (stop n)).0.code

  by_name : stop_code 257 ≡ 0
  by_name = let e : codes (replies K K.start (create 2 ∷ stop 257 ∷ [])) ≡ 0 ∷ 0 ∷ [] = ap codes (h (create 2 ∷ stop 257 ∷ [])) ∙ (stops_plainly x).0 in cc

  by_bare-number : stop_code 1 ≡ 1
  by_bare-number = let e : codes (replies K K.start (create 2 ∷ stop 1 ∷ [])) ≡ 0 ∷ 1 ∷ [] = ap codes (h (create 2 ∷ stop 1 ∷ [])) ∙ (stops_plainly x).1 in cc

pub names : Names
names = record {
  fate = λ x cs later c z e. Lives.fate (after (start x) cs) (after_sound (start x) cs (start_sound x z)) c e later;
  kept = λ x cs p z h. omega (arith, Lives.tallied (start x) (start_sound x z) p h cs);
  apart = λ x cs p q z. Lives.apart (after (start x) cs) (after_sound (start x) cs (start_sound x z)) p q;
  refuses_names = λ x K r h. let a = r (m₁ x K h) 257 in let b = by_name x K h in omega arith;
  by_number = λ x K r h.
      let a : stop_code x K h 257 ≡ stop_code x K h 1 = subst (λ (i : ℕ). stop_code x K h 257 ≡ stop_code x K h i) one_is_bare (ap (λ (a : Answer × List ℕ). a.0.code) (r (m₁ x K h) 257)) in
      let b = by_name x K h in
      let c = by_bare-number x K h in
      omega arith;
}

pub mailboxes : Mailboxes
mailboxes = record {
  never_11 = Boxes.never_11;
  taken = λ s m b x l k o. Boxes.taken s k m o b x l;
  oldest = λ s m b k o. Boxes.oldest s k m o b;
  keeps = Boxes.keeps;
  none_dropped = λ x m cs. Boxes.none_dropped (start x) m cs;
}

pub no_barging : NoBarging
no_barging x cs later z = nobody_barges (after (start x) cs) later (after_sound (start x) cs (start_sound x z))
