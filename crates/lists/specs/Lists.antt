-- Places as functions from numbers, queues as lists in order: the words in which the kernel is defined.
-- Assumes nothing.
use Rattle.std.specs.Prelude.{if◌then◌else◌, ℕ, zero, suc, ◌+◌, Bool, true, false, List, [], ◌∷◌, ◌≡◌, eqb, length, get_or}

-- f, but v at i
abbrev pub put : {A : Type 0} → (ℕ → A) → ℕ → A → ℕ → A
put f i v j = if eqb j i then v else f j

-- the sum of f over 0 to n - 1
unfoldable pub total : ℕ → (ℕ → ℕ) → ℕ
total zero f = 0
total (suc n) f = f n + total n f

-- 1 where x is p, else 0
abbrev pub one : ℕ → ℕ → ℕ
one x p = if eqb x p then 1 else 0

-- a list has someone
abbrev pub someone {ℓ} : {A : Type ℓ} → List A → Bool
someone [] = false
someone (x ∷ l) = true

-- how often p stands in a list
abbrev pub occurs : ℕ → List ℕ → ℕ
occurs p [] = 0
occurs p (x ∷ l) = one x p + occurs p l

-- the list without p
abbrev pub without : ℕ → List ℕ → List ℕ
without p [] = []
without p (x ∷ l) = if eqb x p then without p l else x ∷ without p l

-- how many stand ahead of p in a list
abbrev pub ahead : ℕ → List ℕ → ℕ
ahead p [] = 0
ahead p (x ∷ l) = if eqb x p then 0 else suc (ahead p l)

-- the lowest of the n numbers from i on that passes the test, or i + n where none does
unfoldable pub lowest : ℕ → ℕ → (ℕ → Bool) → ℕ
lowest i zero t = i
lowest i (suc n) t = if t i then i else lowest (suc i) n t

-- those of the n numbers from i on that pass the test, lowest first
unfoldable pub those : ℕ → ℕ → (ℕ → Bool) → List ℕ
those i zero t = []
those i (suc n) t = if t i then i ∷ those (suc i) n t else those (suc i) n t

-- an array of n entries has those of f, which is 0 behind them
pub record Entries (n : ℕ) (t : List ℕ) (f : ℕ → ℕ) : Type 0 where
  pub long : length t ≡ n
  pub each : (i : ℕ) → get_or t i 0 ≡ f i
