-- Cutting bytes into lines, and cutting them into chunks first, are the same.
-- Assumes nothing.
use Prim.Native.Nat.{ℕ, suc, ◌+◌, ◌≤◌, ◌<◌}
use mathlib.Core.List.{List, [], ◌∷◌, ◌++◌, append_assoc, append-nil}
use mathlib.Core.Logic.{⊎_elim}
use mathlib.Core.Bool.{Bool}
use mathlib.Core.Path.{◌≡◌, refl, sym, ap, ◌∙◌}
use native.Mathlib.Omega.{arith}
use native.Mathlib.Numerals.{add-one}
use lib.Dec.{eqb}
use lib.ListN.{length, take, drop, get_or, length-append, length-take, take-append-drop}
use lib.Seq.{get_or-append_seam, drop-cons, get_or-take}
use borrow.Author.Tests.{eq-eqb, ne_eqb, eqb-true}
use Rattle.std.specs.Prelude.{None, Some}
use Rattle.std.specs.List.{position, position_or_len}
use Rattle.std.proofs.lemmas.Grind.{common_steps}
use Rattle.std.proofs.lemmas.List.Quantifiers.{position-Some}
use Rattle.std.proofs.lemmas.List.Sums.{fails_before_first}
use Rattle.std.proofs.lemmas.Bool.{cases_Bool}
use Rattle.feed.specs.Cut.{newline, ended, pending, ending, lines_of, with_newlines, NoNewline}

pub ended-append : (p a b : List ℕ) → ended p (a ++ b) ≡ ended p a ++ ended (pending p a) b
unfolding ended pending
ended-append p [] b = refl
ended-append p (x ∷ a) b = ⊎_elim
    (λ e. rw e (ap (λ (l : List (List ℕ)). p ∷ l) (ended-append [] a b)))
    (λ e. rw e (ended-append (p ++ (x ∷ [])) a b))
    (cases_Bool (eqb x newline))

pub pending-append : (p a b : List ℕ) → pending p (a ++ b) ≡ pending (pending p a) b
unfolding pending
pending-append p [] b = refl
pending-append p (x ∷ a) b = ⊎_elim
    (λ e. rw e (pending-append [] a b))
    (λ e. rw e (pending-append (p ++ (x ∷ [])) a b))
    (cases_Bool (eqb x newline))

pub newlines_append : (a b : List (List ℕ)) → with_newlines (a ++ b) ≡ with_newlines a ++ with_newlines b
newlines_append [] b = refl
newlines_append (t ∷ a) b = rw (newlines_append a b) (sym (append_assoc t (newline ∷ with_newlines a) (with_newlines b)))

-- ---- a piece without a newline

tail_free : (x : ℕ) (c : List ℕ) → NoNewline (x ∷ c) → NoNewline c
tail_free x c free i h = free (suc i) (omega arith)

pub no_end : (p c : List ℕ) → NoNewline c → ended p c ≡ []
unfolding ended
no_end p [] free = refl
no_end p (x ∷ c) free = rw (ne_eqb x newline (free 0 (omega arith))) (no_end (p ++ (x ∷ [])) c (tail_free x c free))

pub all-pending : (p c : List ℕ) → NoNewline c → pending p c ≡ p ++ c
unfolding pending
all-pending p [] free = sym (append-nil p)
all-pending p (x ∷ c) free = rw (ne_eqb x newline (free 0 (omega arith))) (all-pending (p ++ (x ∷ [])) c (tail_free x c free) ∙ append_assoc p (x ∷ []) c)

-- ---- and a newline behind it

pub first_end : (p a c : List ℕ) → NoNewline a → ended p (a ++ (newline ∷ c)) ≡ (p ++ a) ∷ ended [] c
unfolding ended
first_end p a c free = ended-append p a (newline ∷ c) ∙ rw (no_end p a free, all-pending p a free)

pub after_end : (p a c : List ℕ) → NoNewline a → pending p (a ++ (newline ∷ c)) ≡ pending [] c
unfolding pending
after_end p a c free = pending-append p a (newline ∷ c)

pub first-line : (a c : List ℕ) → NoNewline a → lines_of (a ++ (newline ∷ c)) ≡ a ∷ lines_of c
first-line a c free = rw (after_end [] a c free, append_assoc a (newline ∷ c) (ending (pending [] c))) (first_end [] a (c ++ ending (pending [] c)) free)

-- ---- the first newline stands in one place

pub not_free : {chunk : List ℕ} (a c : List ℕ) → NoNewline chunk → chunk ≡ a ++ (newline ∷ c) → ⊥
not_free a c free e =
    let there : get_or (a ++ (newline ∷ c)) (length a) 0 ≡ newline = get_or-append_seam a newline c 0 in
    let long : length (a ++ (newline ∷ c)) ≡ length a + suc (length c) = length-append a (newline ∷ c) in
    free (length a) (rw e (omega arith)) (rw e there)

pub same_cut : (a₁ a₂ c₁ c₂ : List ℕ) → NoNewline a₁ → NoNewline a₂ → a₁ ++ (newline ∷ c₁) ≡ a₂ ++ (newline ∷ c₂) → (a₁ ≡ a₂) × (c₁ ≡ c₂)
same_cut [] [] c₁ c₂ free₁ free₂ e = (refl, cc)
same_cut [] (x ∷ a₂) c₁ c₂ free₁ free₂ e = absurd (free₂ 0 (omega arith) (cc))
same_cut (x ∷ a₁) [] c₁ c₂ free₁ free₂ e = absurd (free₁ 0 (omega arith) (cc))
same_cut (x ∷ a₁) (y ∷ a₂) c₁ c₂ free₁ free₂ e =
    let later : a₁ ++ (newline ∷ c₁) ≡ a₂ ++ (newline ∷ c₂) = cc in
    let r = same_cut a₁ a₂ c₁ c₂ (tail_free x a₁ free₁) (tail_free y a₂ free₂) later in
    let same : a₁ ≡ a₂ = r.0 in
    (cc, r.1)

-- ---- the first newline of what is left of a chunk

abbrev pub ends_line : ℕ → Bool
ends_line b = eqb b newline

pub none_free : (rest : List ℕ) → position ends_line rest ≡ None → NoNewline rest
none_free rest e i h there =
    let past : length rest ≤ position_or_len ends_line rest = grind (arith, common_steps) in
    let other = fails_before_first ends_line rest i 0 (omega arith) in
    let same = eq-eqb (get_or rest i 0) newline there in
    (cc)

module _ (rest : List ℕ) {n : ℕ} (e : position ends_line rest ≡ Some n) where
  pub inside : n < length rest
  inside = (position-Some ends_line rest n 0 e).0

  pub free : NoNewline (take n rest)
  free i h there =
      let few : i < n = omega (arith, length-take n rest) in
      let other = (position-Some ends_line rest n 0 e).2 i few in
      let same = eq-eqb (get_or rest i 0) newline (sym (get_or-take n rest i 0 few) ∙ there) in
      (cc)

  pub cut : rest ≡ take n rest ++ (newline ∷ drop (n + 1) rest)
  cut =
      let there : get_or rest n 0 ≡ newline = eqb-true (get_or rest n 0) newline (position-Some ends_line rest n 0 e).1 in
      sym (take-append-drop n rest) ∙ rw (drop-cons rest n 0 inside, there, add-one)
