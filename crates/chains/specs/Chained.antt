-- When a table links the buffers of messages that are known by their first ones: all that are not free, each once, and no other.
-- Assumes nothing.
use Rattle.std.specs.Prelude.{ℕ, suc, ◌+◌, ◌≤◌, ◌<◌, ◌≡◌, Bool, true, not, ◌&&◌, Option, Some, None, List, [], ◌∷◌, ◌++◌, length, get_or, ltb}
use Rattle.lists.specs.Lists.{occurs, total}
use Rattle.bits.specs.Word.{bit, bits, width}
use Rattle.chains.specs.Led.{after, Led}
use Rattle.chains.specs.Links.{run}

-- the buffers that are not free
abbrev pub used : (ℕ → Bool) → ℕ → Bool
used free p = ltb p width && not (free p)

-- t holds the lists f, the list of a message at its first buffer: every buffer that is not free stands once in one of them, and no other number does
pub record Kept (t : List ℕ) (free : ℕ → Bool) (f : ℕ → List ℕ) : Type 0 where
  pub led : (b : ℕ) → Led t b (f b)
  pub whole : (p : ℕ) → total width (λ b. occurs p (f b)) ≡ bit (used free p)
  pub beyond : (b : ℕ) → width ≤ b → f b ≡ []
  pub alone : (p : ℕ) → p < width → free p ≡ true → after t p ≡ p

-- there are such lists, and the one at b has as many buffers as `need` says at b
abbrev pub Chained : List ℕ → List ℕ → (ℕ → Bool) → Type 0
Chained t need free = (f : ℕ → List ℕ) × Kept t free f × ((b : ℕ) → length (f b) ≡ get_or need b 0)

-- the buffers of messages that are known by their first ones
abbrev pub spread : (ℕ → List ℕ) → List ℕ → List ℕ
spread f [] = []
spread f (b ∷ l) = f b ++ spread f l

-- ---- the decision, on the way

-- every buffer links to itself
abbrev pub Separate : List ℕ → Type 0
Separate t = (b : ℕ) → b < width → after t b ≡ b

-- b needs one buffer, or none where it is free
abbrev pub Single : List ℕ → (ℕ → Bool) → ℕ → Type 0
Single need free b = get_or need b 0 ≡ bit (not (free b))

-- the last of n buffers from b on links to itself
pub data Ends (t : List ℕ) : ℕ → ℕ → Type 0 where
  nil : {b : ℕ} → Ends t 0 b
  end : {b : ℕ} → after t b ≡ b → Ends t 1 b
  far : {n b : ℕ} → Ends t (suc n) (after t b) → Ends t (suc (suc n)) b

-- each of the n buffers from b on is still to be reached, none comes twice, and the last links to itself
pub record Fits (t : List ℕ) (n b : ℕ) (todo : ℕ → Bool) : Type 0 where
  pub there : (p : ℕ) → occurs p (run t n b) ≤ bit (todo p)
  pub ends : Ends t n b

-- these n and those that are left, the bits of a word, make those that were to be reached; or they do not fit
abbrev pub Walked : List ℕ → ℕ → ℕ → (ℕ → Bool) → Option ℕ → Type 0
Walked t n b todo (Some left) = Ends t n b × ((p : ℕ) → bit (bits left p) + occurs p (run t n b) ≡ bit (todo p))
Walked t n b todo None = Fits t n b todo → ⊥

-- one that is free links to itself
abbrev pub Alone : List ℕ → (ℕ → Bool) → ℕ → Type 0
Alone t free p = free p ≡ true → after t p ≡ p

-- the list of b, as the table and the numbers say it
abbrev pub at : List ℕ → List ℕ → ℕ → List ℕ
at t need b = run t (get_or need b 0) b

-- the messages at the buffers below b are walked, and s is left
pub record Passed (t need : List ℕ) (free : ℕ → Bool) (b : ℕ) (s : ℕ → Bool) : Type 0 where
  pub ends : (j : ℕ) → j < b → Ends t (get_or need j 0) j
  pub sums : (p : ℕ) → bit (s p) + total b (λ j. occurs p (at t need j)) ≡ bit (used free p)

-- all are walked, and the bits of a word are left; or there are no such lists
abbrev pub AllWalked : List ℕ → List ℕ → (ℕ → Bool) → Option ℕ → Type 0
AllWalked t need free (Some left) = Passed t need free width (bits left)
AllWalked t need free None = Chained t need free → ⊥
