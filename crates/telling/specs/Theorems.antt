-- The theorems about what is told, as statements. Each is proved under its own name in proofs/Theorems.antt.
-- Assumes nothing.
use Rattle.std.specs.Prelude.{ℕ, ◌≤◌, Bool, List, Option, Some, ◌≡◌, length, take}
use Rattle.std.specs.Io.KnownBytes.{Appends}
use Rattle.telling.specs.Promise.{Refused, Told, Gives, long}
use Rattle.telling.specs.Streams.{Fills}

-- the same text, and the same word on whether it is what was asked for
pub record Same (good₁ good₂ : Bool) (text₁ text₂ : List ℕ) : Type 0 where
  pub good : good₁ ≡ good₂
  pub text : text₁ ≡ text₂

-- whatever is told has one text
abbrev pub One : (Bool → List ℕ → Type 0) → Type 0
One Is = (good₁ good₂ : Bool) (text₁ text₂ : List ℕ) → Is good₁ text₁ → Is good₂ text₂ → Same good₁ good₂ text₁ text₂

-- 1. No second answer: where one text is meant, what meets the promise is equal.
abbrev pub OneTold : Type 1
OneTold = (Is : Bool → List ℕ → Type 0) → One Is → (room : ℕ) (old new new' : List ℕ) (r r' : Told) → Gives room Is old new r → Gives room Is old new' r' → (r ≡ r') × (new ≡ new')

-- 2. Of a fault one text is meant.
abbrev pub OneFault : Type 0
OneFault = (words : List ℕ) → One (Refused words)

-- 3. An area of so many bytes takes the text.
abbrev pub TextFits : Type 1
TextFits = (Is : Bool → List ℕ → Type 0) (room : ℕ) (old new : List ℕ) (r : Told) (g : Gives room Is old new r) → room ≤ length old → take (long r) new ≡ g.text

-- 4. No second answer of a reader whose bytes are known: where it goes well, as many were read, the same ones, and the same are left.
abbrev pub OneRead : Type 0
OneRead = (xs : List ℕ) (new new' : Option (List ℕ)) (area area' : List ℕ) (got got' : ℕ) → length area ≡ length area' → Fills (Some xs) new area got → Fills (Some xs) new' area' got' → (got ≡ got') × (take got area ≡ take got' area') × (new ≡ new')

-- 5. Nor of a writer whose bytes are known: where it goes well, it holds the same.
abbrev pub OneLine : Type 0
OneLine = (held line : List ℕ) (new new' : Option (List ℕ)) → Appends (Some held) new line → Appends (Some held) new' line → new ≡ new'
