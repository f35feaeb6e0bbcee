-- The theorems: a fault has one text; what is told has no second answer, nor has what is read or written where the stream's bytes are known; there is room for what is told.
-- Assumes nothing.
use Prim.Native.Nat.{ℕ, min}
use mathlib.Core.Bool.{Bool, true, false, true≢false, false≢true}
use mathlib.Core.List.{List}
use mathlib.Core.Path.{◌≡◌, refl, sym, ap, ◌∙◌}
use native.Mathlib.Omega.{arith}
use lib.Dec.{eqb}
use lib.ListN.{length, take, drop}
use Rattle.std.specs.Prelude.{cond, Ok, Err, Some, None}
use Rattle.answers.proofs.AreaLaws.{written-whole, one_written}
use Rattle.telling.specs.Theorems.{Same, One, OneTold, OneFault, TextFits, OneRead, OneLine}
use Rattle.telling.specs.Promise.{no_state, Refused, refused, OfInput, Told, good, long}

pub one_fault : OneFault
one_fault words _ _ _ _ refused refused = record { good = refl; text = refl }

-- where the one that is meant of an input has one text, so has what is told
pub one_of_input : (area : List ℕ) (Is : Bool → List ℕ → Type 0) → One Is → One (OfInput area Is)
one_of_input area Is one good₁ good₂ text₁ text₂ a b = go (eqb (length area) 0) a b
  where
    go : (t : Bool) → cond t (Refused no_state good₁ text₁) (Is good₁ text₁) → cond t (Refused no_state good₂ text₂) (Is good₂ text₂) → Same good₁ good₂ text₁ text₂
    go true c d = one_fault no_state good₁ good₂ text₁ text₂ c d
    go false c d = one good₁ good₂ text₁ text₂ c d

same_told : (r r' : Told) → good r ≡ good r' → long r ≡ long r' → r ≡ r'
same_told (Ok n) (Ok m) e d = ap Ok d
same_told (Ok n) (Err m) e d = absurd (true≢false e)
same_told (Err n) (Ok m) e d = absurd (false≢true e)
same_told (Err n) (Err m) e d = ap Err d

pub one_told : OneTold
one_told Is one room old new new' r r' a b =
    let e = one (good r) (good r') a.text b.text a.is b.is in
    let written = one_written e.text a.written b.written in
    (same_told r r' e.good written.0, written.1)

pub text_fits : TextFits
text_fits Is room old new r g h = written-whole g.written (omega (arith, g.short))

pub one_read : OneRead
one_read xs new new' area area' got got' long a b =
    let same : got ≡ got' = a.0 ∙ ap (λ n. min n (length xs)) long ∙ sym b.0 in
    (same, a.1 ∙ ap (λ n. take n xs) same ∙ sym b.1, a.2 ∙ ap (λ n. Some (drop n xs)) same ∙ sym b.2)

pub one_line : OneLine
one_line held line None new' a b = absurd a
one_line held line (Some xs) None a b = absurd b
one_line held line (Some xs) (Some ys) a b = ap Some (a ∙ sym b)
