-- How much is taken: within what was lent, something where there is room, and never in two ways.
-- Assumes nothing.
use Prim.Native.Nat.{ℕ, suc, ◌+◌, ◌-◌, ◌≤◌, ◌<◌}
use mathlib.Core.List.{List, [], ◌∷◌, ◌++◌, append-nil}
use mathlib.Core.Logic.{◌⊎◌, inl, inr}
use mathlib.Core.Path.{◌≡◌, refl, sym, ◌∙◌, subst}
use native.Mathlib.Omega.{arith}
use lib.ListN.{length, take, length-append}
use lib.Seq.{take_all, take-nil}
use Rattle.lists.proofs.Laws.{le?}
use Rattle.script.specs.Grammar.{order}
use Rattle.desk.specs.Line.{Answered}
use Rattle.desk.specs.Theorems.{longest_text}
use Rattle.desk.specs.declared.Desk.{Desk}
use Rattle.desk.proofs.Texts.{answered_short}
use Rattle.desk.proofs.Theorems.{one-answered}
use Rattle.feed.specs.Cut.{newline, ending}
use Rattle.feed.specs.Takes.{Takes, no_room, part, ends}
use Rattle.feed.proofs.Cutting.{not_free, same_cut}

-- ---- bounds

pub record Bounds (chunk w : List ℕ) (room used : ℕ) : Type 0 where
  pub within : used ≤ length chunk
  pub fits : length w ≤ room
  pub some : longest_text < room → 0 < length chunk → 0 < used

pub bounds : {d d' : Desk} {store p chunk store' p' w : List ℕ} {room used : ℕ} → Takes d store p chunk room d' store' p' used w → Bounds chunk w room used
bounds (no_room none) = record { within = omega arith; fits = omega arith; some = λ h some. absurd (omega arith) }
bounds (part room free) = record { within = omega arith; fits = omega arith; some = λ h some. some }
bounds {chunk = chunk} (ends {w = w} a c text room free e answered later) =
    let b = bounds later in
    let short = answered_short answered in
    let size : length chunk ≡ length a + suc (length c) = rw e (length-append a (newline ∷ c)) in
    record { within = omega arith; fits = rw (length-append text (newline ∷ w)) (omega arith); some = λ h some. omega arith }

-- with room, the end of the input takes all that it can
pub whole_end : (p : List ℕ) {d d' : Desk} {store store' p' w : List ℕ} {room used : ℕ} → longest_text < room → Takes d store p (ending p) room d' store' p' used w → take used (ending p) ≡ ending p
whole_end [] {used = used} room t = take-nil used
whole_end (x ∷ p) {used = used} room t = take_all used (newline ∷ []) ((bounds t).some room (omega arith))

-- ---- no bytes are taken as none, with room and without

pub nothing_left : {d : Desk} {store p chunk : List ℕ} {room : ℕ} → chunk ≡ [] → Takes d store p chunk room d store p 0 []
nothing_left {d} {store} {p} {room = room} e = rw e (by (le? room longest_text))
  where
    by : (room ≤ longest_text) ⊎ (longest_text < room) → Takes d store p [] room d store p 0 []
    by (inl h) = no_room h
    by (inr h) = subst (λ (l : List ℕ). Takes d store p [] room d store l 0 []) (append-nil p) (part h (λ i few. absurd (omega arith)))

-- ---- no second way

pub record SameTaken (d₁ d₂ : Desk) (store₁ store₂ p₁ p₂ w₁ w₂ : List ℕ) (used₁ used₂ : ℕ) : Type 0 where
  pub desk : d₁ ≡ d₂
  pub store : store₁ ≡ store₂
  pub pending : p₁ ≡ p₂
  pub answers : w₁ ≡ w₂
  pub used : used₁ ≡ used₂

pub one_way : {d d₁ d₂ : Desk} {store p chunk store₁ store₂ p₁ p₂ w₁ w₂ : List ℕ} {room used₁ used₂ : ℕ} → Takes d store p chunk room d₁ store₁ p₁ used₁ w₁ → Takes d store p chunk room d₂ store₂ p₂ used₂ w₂
    → SameTaken d₁ d₂ store₁ store₂ p₁ p₂ w₁ w₂ used₁ used₂
one_way (no_room h) (no_room h') = record { desk = refl; store = refl; pending = refl; answers = refl; used = refl }
one_way (no_room h) (part h' free) = absurd (omega arith)
one_way (no_room h) (ends a c text h' free e answered later) = absurd (omega arith)
one_way (part h free) (no_room h') = absurd (omega arith)
one_way (part h free) (part h' free') = record { desk = refl; store = refl; pending = refl; answers = refl; used = refl }
one_way (part h free) (ends a c text h' free' e answered later) = absurd (not_free a c free e)
one_way (ends a c text h free e answered later) (no_room h') = absurd (omega arith)
one_way (ends a c text h free e answered later) (part h' free') = absurd (not_free a c free' e)
one_way {d} {d₂ = d₂} {store} {p} {store₂ = store₂} {p₂ = p₂} {room = room} (ends a c text h free e answered later) (ends {d' = d'} {store' = store'} {w = w} {used = used} a' c' text' h' free' e' answered' later') =
    let cut = same_cut a a' c c' free free' (sym e ∙ e') in
    let same = one-answered answered (subst (λ (l : List ℕ). Answered store d (order (p ++ l)) d' store' text') (sym cut.0) answered') in
    let again = subst (λ (x : Desk × List ℕ × List ℕ × List ℕ). Takes x.0 x.1 [] x.2 (room - (length x.3 + 1)) d₂ store₂ p₂ used w) (λ i. (sym same.desk i, sym same.store i, sym cut.1 i, sym same.text i)) later' in
    let r = one_way later again in
    record { desk = r.desk; store = r.store; pending = r.pending; answers = λ i. same.text i ++ (newline ∷ r.answers i); used = λ i. length (cut.0 i) + 1 + r.used i }
