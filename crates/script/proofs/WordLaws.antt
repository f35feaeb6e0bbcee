-- Laws of words: where a line is cut, and when two words are the same.
-- Assumes nothing.
use Prim.Native.Nat.{ℕ, suc, ◌+◌, ◌-◌, ◌≤◌, ◌<◌}
use mathlib.Core.Path.{◌≡◌, refl, sym, ap, subst, ◌∙◌}
use mathlib.Core.Bool.{Bool, true, false, ◌&&◌}
use mathlib.Core.List.{List, [], ◌∷◌, ◌++◌}
use mathlib.Core.Logic.{◌≢◌}
use native.Mathlib.Omega.{arith}
use native.Mathlib.Numerals.{add-one}
use lib.ListN.{length, get_or, take, drop, length-drop}
use lib.Seq.{drop-cons, take_all}
use lib.Dec.{eqb, ltb}
use borrow.Author.Tests.{eq-eqb, eqb-true, ltb-true, ltb-false}
use Rattle.std.proofs.Common.{◌⊎◌, inl, inr}
use Rattle.std.proofs.lemmas.Slice.Eq.{HasBytesAt, text_from_reads}
use Rattle.std.specs.Prelude.{if◌then◌else◌, cond, not, Option, Some, None, position}
use Rattle.std.specs.List.{position_or_len}
use Rattle.std.proofs.lemmas.Bool.{false_from_ne_true}
use Rattle.std.proofs.lemmas.Grind.{common_steps}
use Rattle.std.proofs.lemmas.List.Sums.{position_or_len_is}
use Rattle.memchr.specs.Find.{IsFirstByte, is_byte}
use Rattle.answers.specs.Ascii.{space}
use Rattle.script.specs.Grammar.{begin, words, same}

module _ (l : List ℕ) (i : ℕ) (h : i < length l) where
  -- one element, then the rest, as the code counts
  pub step : drop i l ≡ get_or l i 0 ∷ drop (i + 1) l
  step = rw (add-one, drop-cons l i 0)

-- ---- a word and a fixed one

same_self : (p : List ℕ) → same p p ≡ true
same_self [] = refl
same_self (c ∷ p) = rw (eq-eqb c c refl, same_self p)

same_whole : (w p : List ℕ) → same w p ≡ true → w ≡ p
same_whole [] [] e = refl
same_whole [] (c ∷ p) e = absurd cc
same_whole (x ∷ w) [] e = absurd cc
same_whole (x ∷ w) (c ∷ p) e = go (eqb x c) refl e (λ d. same_whole w p d)
  where
    go : (t : Bool) → eqb x c ≡ t → (t && same w p) ≡ true → (same w p ≡ true → w ≡ p) → x ∷ w ≡ c ∷ p
    go true h d ih = let head : x ≡ c = eqb-true x c h in let tail : w ≡ p = ih d in cc
    go false h d ih = absurd cc

own_bytes : (p q : List ℕ) (i : ℕ) → q ≡ drop i p → HasBytesAt p i q
own_bytes p [] i e = tt
own_bytes p (c ∷ q) i e =
    let inside : i < length p = omega (arith, ap length e, length-drop i p) in
    let parts : c ∷ q ≡ get_or p i 0 ∷ drop (suc i) p = e ∙ rw (drop-cons p i 0) in
    (cc, own_bytes p q (suc i) cc)

pub same_cases : (w p : List ℕ) → ((same w p ≡ true) × (length w ≡ length p) × HasBytesAt w 0 p) ⊎ (same w p ≡ false)
same_cases w p = go (same w p) refl
  where
    go : (t : Bool) → same w p ≡ t → ((t ≡ true) × (length w ≡ length p) × HasBytesAt w 0 p) ⊎ (t ≡ false)
    go true e =
        let whole : w ≡ p = same_whole w p e in
        inl (refl, ap length whole, subst (λ (x : List ℕ). HasBytesAt x 0 p) (sym whole) (own_bytes p p 0 refl))
    go false e = inr refl

pub same_read : (w p : List ℕ) → length w ≡ length p → HasBytesAt w 0 p → same w p ≡ true
same_read w p e h = rw (text_from_reads w p e h, same_self p)

-- for a `match` on fixed words
pub ruleset fixed_words = (same_cases, same_read)

pub same_long : (w p : List ℕ) → length w ≢ length p → same w p ≡ false
same_long w p n = elim (same_cases w p) [
  | inl found ↦ absurd (n found.1)
  | inr other ↦ other
]

-- ---- where a line is cut

-- what the search of memchr gives is the first place
pub first_place : (a : ℕ) (l : List ℕ) (r : Option ℕ) → IsFirstByte (is_byte a) l r → r ≡ position (λ x. eqb x a) l
first_place a l None none =
    let past : position_or_len (λ x. eqb x a) l ≡ length l = position_or_len_is (λ x. eqb x a) l (length l) 0 (omega arith) (λ k h. false_from_ne_true _ (none k (omega arith) h)) (λ h. absurd (omega arith)) in
    grind (arith, common_steps, past)
first_place a l (Some k) found =
    let here : position_or_len (λ x. eqb x a) l ≡ k = position_or_len_is (λ x. eqb x a) l k 0 (omega (arith, found.0.high)) (λ j h. false_from_ne_true _ (found.0.before j (omega arith) h)) (λ h. found.1) in
    grind (arith, common_steps, here, found.0.high)

abbrev end_of : List ℕ → ℕ
end_of l = position_or_len (λ x. eqb x space) l

whole : (l : List ℕ) → length l ≤ end_of l → words l ≡ l ∷ []
whole [] h = refl
whole (x ∷ l) h = go (eqb x space) h (λ d. whole l d)
  where
    go : (t : Bool) → suc (length l) ≤ cond (not t) (1 + end_of l) 0 → (length l ≤ end_of l → words l ≡ l ∷ []) → (if t then [] ∷ words l else begin x (words l)) ≡ (x ∷ l) ∷ []
    go true d ih = absurd (omega arith)
    go false d ih = rw (ih (omega arith))

cut : (l : List ℕ) → end_of l < length l → words l ≡ take (end_of l) l ∷ words (drop (suc (end_of l)) l)
cut [] h = absurd (omega arith)
cut (x ∷ l) h = go (eqb x space) h (λ d. cut l d)
  where
    go : (t : Bool) → cond (not t) (1 + end_of l) 0 < suc (length l) → (end_of l < length l → words l ≡ take (end_of l) l ∷ words (drop (suc (end_of l)) l))
        → (if t then [] ∷ words l else begin x (words l)) ≡ take (cond (not t) (1 + end_of l) 0) (x ∷ l) ∷ words (drop (suc (cond (not t) (1 + end_of l) 0)) (x ∷ l))
    go true d ih = refl
    go false d ih = let next : 1 + end_of l ≡ suc (end_of l) = omega arith in rw (next, ih (omega arith))

-- all from n on, as the code takes it
abbrev pub rest : List ℕ → ℕ → List ℕ
rest l n = take (length l - n) (drop n l)

pub all_from : (l : List ℕ) (n : ℕ) → rest l n ≡ drop n l
all_from l n = take_all (length l - n) (drop n l) (simp length-drop (omega arith))

pub words_one : (l : List ℕ) → position (λ x. eqb x space) l ≡ None → words l ≡ l ∷ []
words_one l e = go (ltb (end_of l) (length l)) refl e
  where
    go : (t : Bool) → ltb (end_of l) (length l) ≡ t → cond t (Some (end_of l)) None ≡ None → words l ≡ l ∷ []
    go true h d = absurd cc
    go false h d = whole l (ltb-false (end_of l) (length l) h)

-- the word before the first space, and the words behind it
pub words_cut : (l : List ℕ) (n : ℕ) → position (λ x. eqb x space) l ≡ Some n → words l ≡ take n l ∷ words (rest l (n + 1))
words_cut l n e = go (ltb (end_of l) (length l)) refl e
  where
    go : (t : Bool) → ltb (end_of l) (length l) ≡ t → cond t (Some (end_of l)) None ≡ Some n → words l ≡ take n l ∷ words (rest l (n + 1))
    go true h d = let same : end_of l ≡ n = cc in rw (all_from, add-one, ← same) (cut l (ltb-true (end_of l) (length l) h))
    go false h d = absurd cc

-- a line has a word, if an empty one
pub record Begins (ws : List (List ℕ)) : Type 0 where
  pub first : List ℕ
  pub others : List (List ℕ)
  pub whole : ws ≡ first ∷ others

begun : (x : ℕ) (ws : List (List ℕ)) → Begins (begin x ws)
begun x [] = record { first = x ∷ []; others = []; whole = refl }
begun x (w ∷ ws) = record { first = x ∷ w; others = ws; whole = refl }

pub words-begin : (l : List ℕ) → Begins (words l)
words-begin [] = record { first = []; others = []; whole = refl }
words-begin (x ∷ l) = elim (eqb x space) as (λ (t : Bool). Begins (if t then [] ∷ words l else begin x (words l))) [
  | true ↦ record { first = []; others = words l; whole = refl }
  | false ↦ begun x (words l)
]

-- ---- where the last word stands

abbrev last : List (List ℕ) → List ℕ
last [] = []
last (w ∷ []) = w
last (w ∷ v ∷ ws) = last (v ∷ ws)

-- a line of one word is that word, and one of more ends with the last
abbrev pub Ends : List ℕ → List (List ℕ) → Type 0
Ends l [] = ⊥
Ends l (w ∷ []) = w ≡ l
Ends l (w ∷ v ∷ ws) = (p : List ℕ) × (l ≡ p ++ last (v ∷ ws))

pub ends : (l : List ℕ) → Ends l (words l)
ends [] = refl
ends (x ∷ l) = go (eqb x space) (words l) (ends l)
  where
    longer : {a b : List ℕ} → a ≡ b → x ∷ a ≡ x ∷ b
    longer = ap (λ (m : List ℕ). x ∷ m)

    go : (t : Bool) (ws : List (List ℕ)) → Ends l ws → Ends (x ∷ l) (if t then [] ∷ ws else begin x ws)
    go true [] e = absurd e
    go true (w ∷ []) e = (x ∷ [], longer (sym e))
    go true (w ∷ v ∷ ws) e = (x ∷ e.0, longer e.1)
    go false [] e = absurd e
    go false (w ∷ []) e = longer e
    go false (w ∷ v ∷ ws) e = (x ∷ e.0, longer e.1)
