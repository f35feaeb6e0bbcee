-- Laws of what is told: the same text, meant otherwise.
-- Assumes nothing.
use Prim.Native.Nat.{ℕ, ◌≤◌}
use mathlib.Core.Bool.{Bool}
use mathlib.Core.List.{List}
use mathlib.Core.Logic.{◌≢◌}
use mathlib.Core.Path.{◌≡◌}
use native.Mathlib.Omega.{arith}
use lib.ListN.{length}
use borrow.Author.Tests.{eq-eqb, ne_eqb}
use Rattle.telling.specs.Promise.{no_state, Refused, OfInput, Told, Gives, good}

pub gives_as : {room room' : ℕ} {Is Is' : Bool → List ℕ → Type 0} {old new : List ℕ} {r : Told} → room ≤ room' → ((good : Bool) (text : List ℕ) → Is good text → Is' good text) → Gives room Is old new r → Gives room' Is' old new r
gives_as {r} h f g = record { text = g.text; is = f (good r) g.text g.is; short = omega (arith, g.short); written = g.written }

-- ---- by whether there is an input

module _ (area : List ℕ) (Is : Bool → List ℕ → Type 0) where
  pub of_none : length area ≡ 0 → (good : Bool) (text : List ℕ) → Refused no_state good text → OfInput area Is good text
  of_none e good text t = rw (eq-eqb (length area) 0 e) t

  pub of_some : length area ≢ 0 → (good : Bool) (text : List ℕ) → Is good text → OfInput area Is good text
  of_some d good text t = rw (ne_eqb (length area) 0 d) t
