-- A call made is one call of one form, whatever it is lent: what it does, what it shows and the store that it leaves are known by the state.
-- Assumes nothing.
use Prim.Native.Nat.{ℕ}
use mathlib.Core.List.{List, []}
use mathlib.Core.Path.{◌≡◌, refl, ap}
use Rattle.plain.specs.Calls as Plain
use Rattle.plain.specs.Sound.{Sound}
use Rattle.plain.specs.State.{State}
use Rattle.promise.specs.Lent.{Lent, lends}
use Rattle.promise.specs.Promise.{Promised, sound, unsound, not_sound, with_store}
use Rattle.promise.specs.Theorems.{Heard, copied, Step}
use Rattle.promise.proofs.Stored.{leaves, room-shown}

-- what a call that is lent so does to plain states
abbrev pub does : Lent → List ℕ → Plain.Call → State → Plain.Outcome
does Lent.nothing store c = λ s. Plain.step s c
does (Lent.bytes b at) store c = with_store store c
does (Lent.room n) store c = with_store store c

-- that is the plain kernel's step, or the same behind the test of the store
pub does_cases : (P : Plain.Outcome → Type 0) (l : Lent) (store : List ℕ) (c : Plain.Call) (s : State) → P (Plain.step s c) → P (with_store store c s) → P (does l store c s)
does_cases P Lent.nothing store c s p q = p
does_cases P (Lent.bytes b at) store c s p q = q
does_cases P (Lent.room n) store c s p q = q

-- what is shown and the store that is left
abbrev Left : Heard → List ℕ → List ℕ × List ℕ → Type 0
Left h store' x = ◌≡◌ {A = List ℕ × List ℕ} (h.1, store') x

module _ {K : Type 0} (Holds : K → State → Type 0) where
  -- something else is said of the lent areas
  other_areas : {f : State → Plain.Outcome} {Later Later' : State → Type 0} {Same Same' : Type 0} {k k' : K} {a : Plain.Answer}
      → ((s : State) → Sound s → a ≡ (f s).answer → Later s → Later' s) → (a ≡ not_sound → Same → Same') → Promised Holds f Later Same k k' a → Promised Holds f Later' Same' k k' a
  other_areas later same (sound i h) = sound i (λ s H S. let g = h s H S in (g.0, later s S g.0.answer g.1))
  other_areas later same (unsound n e a z) = unsound n e a (same a z)

  -- the form of every call: the areas are left so in a sound state, and as they were in no sound one
  abbrev pub Made : Lent → K → List ℕ → Plain.Call → Heard → K → List ℕ → Type 0
  Made l k store c h k' store' = Promised Holds (does l store c) (λ s. Left h store' (leaves l store (does l store c s) s)) (Left h store' ([], store)) k k' h.0

  pub made : {k k' : K} {store store' : List ℕ} {c : Plain.Call} {h : Heard} → Step Holds k store c h k' store' → Made (lends c) k store c h k' store'
  made (Step.plainly is p) = rw is (other_areas (λ s S e u. refl) (λ e u. refl) p)
  made (Step.posts b at later is p) = rw is (other_areas (λ s S e w. ap (λ (x : List ℕ). ([], x)) w) (λ e w. ap (λ (x : List ℕ). ([], x)) w) p)
  made {store = store} {c = c} (Step.copies room later is p) =
      rw is (other_areas (λ s S e w. ap (λ (x : List ℕ). (x, store)) (rw (← room-shown store s S c is room) (λ i. copied (e i) (w i)))) (λ e w. rw e refl) p)
