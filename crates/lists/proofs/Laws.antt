-- Laws of places and lists, once, for any list, any number and any queue.
-- Assumes nothing.
use Prim.Native.Nat.{ℕ, zero, suc, ◌+◌, ◌*◌, ◌≤◌, ◌<◌}
use mathlib.Core.Path.{◌≡◌, refl, sym, ap, ◌∙◌, subst, fun_ext}
use mathlib.Core.Bool.{Bool, true, false, true≢false}
use mathlib.Core.Logic.{◌≢◌, ◌⊎◌, inl, inr, ⊎_elim}
use mathlib.Core.List.{List, [], ◌∷◌, ◌++◌}
use native.Mathlib.Omega.{arith}
use lib.ListN.{length, get_or, set, replicate, length-set, length-replicate}
use lib.Seq.{get_or-set_same, get_or-set_other, ext_get_or}
use lib.Dec.{leb, eqb}
use borrow.Author.Tests.{leb-true, leb-false, eq-eqb, ne_eqb}
use Rattle.std.specs.Prelude.{if◌then◌else◌}
use Rattle.std.proofs.lemmas.Bool.{cases_Bool, cases_eq}
use Rattle.lists.specs.Lists.{put, someone, one, total, occurs, without, ahead, lowest, Entries}

-- a list in which is nobody
pub nobody : {A : Type 0} (l : List A) → someone l ≡ false → l ≡ []
nobody [] e = refl
nobody (x ∷ l) e = absurd (true≢false e)

-- and one that has a first
pub first_of : {A : Type 0} (l : List A) → someone l ≡ true → (x : A) × (r : List A) × (l ≡ x ∷ r)
first_of [] e = absurd (true≢false (sym e))
first_of (x ∷ l) e = (x, l, refl)

pub le? : (a b : ℕ) → (a ≤ b) ⊎ (b < a)
le? a b = go (leb a b) refl
  where
    go : (t : Bool) → leb a b ≡ t → (a ≤ b) ⊎ (b < a)
    go true e = inl (leb-true a b e)
    go false e = inr (leb-false a b e)

module _ {A : Type 0} where
  pub put_same : (f : ℕ → A) (i : ℕ) (v : A) → put f i v i ≡ v
  put_same f i v = rw (eq-eqb i i refl)

  pub put_other : (f : ℕ → A) (i : ℕ) (v : A) (j : ℕ) → j ≢ i → put f i v j ≡ f j
  put_other f i v j n = rw (ne_eqb j i n)

  -- what holds of v at i, and of f elsewhere, holds of f with v at i
  pub put_cases : (P : A → Type 0) (f : ℕ → A) (i : ℕ) (v : A) (j : ℕ) → (j ≡ i → P v) → (j ≢ i → P (f j)) → P (put f i v j)
  put_cases P f i v j a b = ⊎_elim (λ e. rw (eq-eqb j i e) (a e)) (λ n. rw (ne_eqb j i n) (b n)) (cases_eq j i)

pub one_same : (x : ℕ) → one x x ≡ 1
one_same x = rw (eq-eqb x x refl)

pub one_other : (x p : ℕ) → x ≢ p → one x p ≡ 0
one_other x p n = rw (ne_eqb x p n)

pub one-le : (x p : ℕ) → one x p ≤ 1
one-le x p = go (eqb x p)
  where
    go : (t : Bool) → (if t then 1 else 0) ≤ 1
    go true = omega arith
    go false = omega arith

-- ---- occurs

pub occurs-append : (p : ℕ) (l r : List ℕ) → occurs p (l ++ r) ≡ occurs p l + occurs p r
occurs-append p [] r = omega arith
occurs-append p (x ∷ l) r = omega (arith, occurs-append p l r)

pub occurs_rear : (p x : ℕ) (l : List ℕ) → occurs p (l ++ (x ∷ [])) ≡ occurs p l + one x p
occurs_rear p x l = omega (arith, occurs-append p l (x ∷ []))

pub occurs-without-same : (p : ℕ) (l : List ℕ) → occurs p (without p l) ≡ 0
occurs-without-same p [] = refl
occurs-without-same p (x ∷ l) =
    let ih = occurs-without-same p l in
    ⊎_elim (λ e. rw (eq-eqb x p e) ih) (λ n. rw (ne_eqb x p n) (rw (ne_eqb x p n) (omega arith))) (cases_eq x p)

pub occurs-without_other : (x p : ℕ) (l : List ℕ) → x ≢ p → occurs x (without p l) ≡ occurs x l
occurs-without_other x p [] n = refl
occurs-without_other x p (y ∷ l) n =
    let ih = occurs-without_other x p l n in
    ⊎_elim (λ e. rw (eq-eqb y p e) (omega (arith, one_other y x (λ d. n (sym d ∙ e))))) (λ m. rw (ne_eqb y p m) (omega arith)) (cases_eq y p)

pub length_without : (p : ℕ) (l : List ℕ) → length (without p l) ≤ length l
length_without p [] = omega arith
length_without p (x ∷ l) =
    let ih = length_without p l in
    ⊎_elim (λ e. rw (eq-eqb x p e) (omega arith)) (λ n. rw (ne_eqb x p n) (omega arith)) (cases_eq x p)

-- ---- lowest

-- the lowest number that passes a test passes it, and lies in the range, unless none does
pub lowest-passes : (i n : ℕ) (t : ℕ → Bool) → lowest i n t ≢ i + n → (i ≤ lowest i n t) × (lowest i n t < i + n) × (t (lowest i n t) ≡ true)
unfolding lowest
lowest-passes i zero t d = absurd (d (omega arith))
lowest-passes i (suc n) t d = go (t i) refl d (λ b. lowest-passes (suc i) n t b)
  where
    go : (v : Bool) → t i ≡ v → (if v then i else lowest (suc i) n t) ≢ i + suc n
        → (lowest (suc i) n t ≢ suc i + n → (suc i ≤ lowest (suc i) n t) × (lowest (suc i) n t < suc i + n) × (t (lowest (suc i) n t) ≡ true))
        → (i ≤ (if v then i else lowest (suc i) n t)) × ((if v then i else lowest (suc i) n t) < i + suc n) × (t (if v then i else lowest (suc i) n t) ≡ true)
    go true e d' ih = (omega arith, omega arith, e)
    go false e d' ih = let b = ih (λ x. d' (omega arith)) in (omega arith, omega arith, b.2)

-- and it is none above one that passes
pub lowest_most : (i n p : ℕ) (t : ℕ → Bool) → i ≤ p → p < i + n → t p ≡ true → lowest i n t ≤ p
unfolding lowest
lowest_most i zero p t a b e = absurd (omega arith)
lowest_most i (suc n) p t a b e = ⊎_elim
    (λ (y : t i ≡ true). rw y a)
    (λ (x : t i ≡ false). rw x (lowest_most (suc i) n p t (⊎_elim (λ (d : i ≡ p). absurd (true≢false (sym e ∙ (ap t (sym d) ∙ x)))) (λ d. omega arith) (cases_eq i p)) (omega arith) e))
    (cases_Bool (t i))

-- the lowest number is known by passing where none below it does
pub lowest_is : (i n p : ℕ) (t : ℕ → Bool) → i ≤ p → p < i + n → t p ≡ true → ((j : ℕ) → i ≤ j → j < p → t j ≡ false) → lowest i n t ≡ p
unfolding lowest
lowest_is i zero p t a b e h = absurd (omega arith)
lowest_is i (suc n) p t a b e h = ⊎_elim
    (λ (d : i ≡ p). rw (ap t d ∙ e) d)
    (λ (d : i ≢ p). rw (h i (omega arith) (omega arith)) (lowest_is (suc i) n p t (omega arith) (omega arith) e (λ j x y. h j (omega arith) y)))
    (cases_eq i p)

pub lowest_none : (i n : ℕ) (t : ℕ → Bool) → ((j : ℕ) → i ≤ j → j < i + n → t j ≡ false) → lowest i n t ≡ i + n
unfolding lowest
lowest_none i zero t h = omega arith
lowest_none i (suc n) t h = rw (h i (omega arith) (omega arith)) (omega (arith, lowest_none (suc i) n t (λ j x y. h j (omega arith) (omega arith))))

pub lowest-same : (i n : ℕ) (t u : ℕ → Bool) → ((j : ℕ) → i ≤ j → j < i + n → t j ≡ u j) → lowest i n t ≡ lowest i n u
unfolding lowest
lowest-same i zero t u h = refl
lowest-same i (suc n) t u h = rw (h i (omega arith) (omega arith), lowest-same (suc i) n t u (λ j a b. h j (omega arith) (omega arith)))

-- ---- total

pub total-same : (n : ℕ) (f g : ℕ → ℕ) → ((i : ℕ) → i < n → f i ≡ g i) → total n f ≡ total n g
unfolding total
total-same zero f g h = refl
total-same (suc n) f g h = omega (arith, h n (omega arith), total-same n f g (λ i k. h i (omega arith)))

pub total_zero : (n : ℕ) (f : ℕ → ℕ) → ((i : ℕ) → i < n → f i ≡ 0) → total n f ≡ 0
unfolding total
total_zero zero f h = refl
total_zero (suc n) f h = omega (arith, h n (omega arith), total_zero n f (λ i k. h i (omega arith)))

pub total-le : (n : ℕ) (f g : ℕ → ℕ) → ((i : ℕ) → f i ≤ g i) → total n f ≤ total n g
unfolding total
total-le zero f g h = omega arith
total-le (suc n) f g h = omega (arith, h n, total-le n f g h)

-- one entry lower, and none higher
pub total_lt : (n : ℕ) (f g : ℕ → ℕ) (i : ℕ) → i < n → ((j : ℕ) → f j ≤ g j) → f i < g i → total n f < total n g
unfolding total
total_lt zero f g i b h l = absurd (omega arith)
total_lt (suc n) f g i b h l =
    ⊎_elim (λ (e : i ≡ n). omega (arith, total-le n f g h, subst (λ (j : ℕ). f j < g j) e l)) (λ (d : i ≢ n). omega (arith, h n, total_lt n f g i (omega arith) h l)) (cases_eq i n)

pub total_times : (k n : ℕ) (f g : ℕ → ℕ) → ((i : ℕ) → f i ≤ k * g i) → total n f ≤ k * total n g
unfolding total
total_times k zero f g h = omega arith
total_times k (suc n) f g h = omega (arith, h n, total_times k n f g h)

-- a sum of which one part at most is above 0, and none above 1
pub total_once : (k : ℕ) (g : ℕ → ℕ) → ((i : ℕ) → g i ≤ 1) → ((i j : ℕ) → 1 ≤ g i → 1 ≤ g j → i ≡ j) → total k g ≤ 1
unfolding total
total_once zero g a b = omega arith
total_once (suc k) g a b = ⊎_elim
    (λ o. omega (arith, a k, total_zero k g (λ i h. ⊎_elim (λ z. absurd (omega (arith, b i k z o))) (λ z. omega arith) (le? 1 (g i)))))
    (λ z. omega (arith, total_once k g a b))
    (le? 1 (g k))

pub total-ones : (k : ℕ) (g : ℕ → ℕ) → ((i : ℕ) → g i ≤ 1) → total k g ≤ k
unfolding total
total-ones zero g a = omega arith
total-ones (suc k) g a = omega (arith, a k, total-ones k g a)

pub total-at : (n : ℕ) (f : ℕ → ℕ) (i : ℕ) → i < n → f i ≤ total n f
unfolding total
total-at zero f i h = omega arith
total-at (suc n) f i h = ⊎_elim (λ e. rw e (omega arith)) (λ d. omega (arith, total-at n f i (omega arith))) (cases_eq i n)

pub total_two : (n : ℕ) (f : ℕ → ℕ) (i j : ℕ) → i < n → j < n → i ≢ j → f i + f j ≤ total n f
unfolding total
total_two zero f i j h k d = omega arith
total_two (suc n) f i j h k d =
    ⊎_elim (λ e. rw e (omega (arith, total-at n f j (omega arith))))
    (λ a. ⊎_elim (λ e. rw e (omega (arith, total-at n f i (omega arith)))) (λ b. omega (arith, total_two n f i j (omega arith) (omega arith) d)) (cases_eq j n))
    (cases_eq i n)

-- one entry changed
pub total_change : (n : ℕ) (f g : ℕ → ℕ) (i : ℕ) → i < n → ((j : ℕ) → j ≢ i → g j ≡ f j) → total n g + f i ≡ total n f + g i
unfolding total
total_change zero f g i h k = omega arith
total_change (suc n) f g i h k =
    ⊎_elim (λ e. let same : total n g ≡ total n f = total-same n g f (λ j b. k j (omega arith)) in rw e (omega arith))
    (λ d. omega (arith, k n (λ b. d (sym b)), total_change n f g i (omega arith) k)) (cases_eq i n)

-- ---- how long a list can be

length-total : (n : ℕ) (l : List ℕ) → ((x : ℕ) → 1 ≤ occurs x l → x < n) → total n (λ p. occurs p l) ≡ length l
length-total n [] b = total_zero n (λ p. 0) (λ i h. refl)
length-total n (x ∷ l) b =
    let low : x < n = b x (omega (arith, one_same x)) in
    let more = total_change n (λ p. occurs p l) (λ p. occurs p (x ∷ l)) x low (λ j d. omega (arith, one_other x j (λ e. d (sym e)))) in
    omega (arith, length-total n l (λ y o. b y (omega arith)), one_same x)

-- a list of numbers below n none of which stands in it twice has at most n
pub at_most : (n : ℕ) (l : List ℕ) → ((x : ℕ) → 1 ≤ occurs x l → x < n) → ((x : ℕ) → occurs x l ≤ 1) → length l ≤ n
at_most n l b once = omega (arith, length-total n l b, total-ones n (λ p. occurs p l) once)

-- ---- who is taken out of a list

pub without_absent : (p : ℕ) (l : List ℕ) → occurs p l ≡ 0 → without p l ≡ l
without_absent p [] n = refl
without_absent p (x ∷ l) n =
    let d : x ≢ p = λ e. omega (arith, subst (λ (z : ℕ). one x z ≡ 1) e (one_same x)) in
    rw (ne_eqb x p d) (ap (λ (r : List ℕ). x ∷ r) (without_absent p l (omega arith)))

pub without_split : (p : ℕ) (a b : List ℕ) → occurs p a ≡ 0 → occurs p b ≡ 0 → without p (a ++ p ∷ b) ≡ a ++ b
without_split p [] b n m = rw (eq-eqb p p refl) (without_absent p b m)
without_split p (x ∷ a) b n m =
    let d : x ≢ p = λ e. omega (arith, subst (λ (z : ℕ). one x z ≡ 1) e (one_same x)) in
    rw (ne_eqb x p d) (ap (λ (r : List ℕ). x ∷ r) (without_split p a b (omega arith) m))

pub without-append : (p : ℕ) (l r : List ℕ) → without p (l ++ r) ≡ without p l ++ without p r
without-append p [] r = refl
without-append p (x ∷ l) r = ⊎_elim
    (λ (e : x ≡ p). rw (eq-eqb x p e) (without-append p l r))
    (λ (d : x ≢ p). rw (ne_eqb x p d) (ap (λ (y : List ℕ). x ∷ y) (without-append p l r)))
    (cases_eq x p)

-- one who stands in a list has a part before it and a part after it
pub record Stands (p : ℕ) (l : List ℕ) : Type 0 where
  pub before : List ℕ
  pub behind : List ℕ
  pub whole : l ≡ before ++ p ∷ behind
  pub first_there : occurs p before ≡ 0

pub stands : (p : ℕ) (l : List ℕ) → 1 ≤ occurs p l → Stands p l
stands p [] o = absurd (omega arith)
stands p (x ∷ l) o = ⊎_elim
    (λ (e : x ≡ p). record { before = []; behind = l; whole = ap (λ (y : ℕ). y ∷ l) e; first_there = refl })
    (λ (d : x ≢ p).
    let r = stands p l (omega (arith, one_other x p d)) in
    record { before = x ∷ r.before; behind = r.behind; whole = ap (λ (y : List ℕ). x ∷ y) r.whole; first_there = omega (arith, r.first_there, one_other x p d) })
    (cases_eq x p)

-- as many are ahead of p as stand before it
pub ahead_split : (p : ℕ) (l r : List ℕ) → occurs p l ≡ 0 → ahead p (l ++ p ∷ r) ≡ length l
ahead_split p [] r n = rw (eq-eqb p p refl)
ahead_split p (x ∷ l) r n = ⊎_elim
    (λ (e : x ≡ p). absurd (omega (arith, n, subst (λ (y : ℕ). one y p ≡ 1) (sym e) (one_same p))))
    (λ (d : x ≢ p). rw (ne_eqb x p d) (ap suc (ahead_split p l r (omega (arith, n)))))
    (cases_eq x p)

-- nobody who comes behind is ahead of p, and nobody more once another has left
pub ahead_rear : (p : ℕ) (l r : List ℕ) → 1 ≤ occurs p l → ahead p (l ++ r) ≡ ahead p l
ahead_rear p [] r o = absurd (omega arith)
ahead_rear p (x ∷ l) r o = ⊎_elim
    (λ (e : x ≡ p). rw (eq-eqb x p e) refl)
    (λ (d : x ≢ p). rw (ne_eqb x p d) (ap suc (ahead_rear p l r (omega (arith, one_other x p d)))))
    (cases_eq x p)

pub ahead-without : (p y : ℕ) (l : List ℕ) → y ≢ p → ahead p (without y l) ≤ ahead p l
ahead-without p y [] n = omega arith
ahead-without p y (x ∷ l) n = ⊎_elim
    (λ (e : x ≡ y). rw (eq-eqb x y e, ne_eqb x p (λ b. n (sym e ∙ b))) (omega (arith, ahead-without p y l n)))
    (λ (d : x ≢ y). rw (ne_eqb x y d) (⊎_elim
    (λ (e : x ≡ p). rw (eq-eqb x p e) (omega arith))
    (λ (b : x ≢ p). rw (ne_eqb x p b) (omega (arith, ahead-without p y l n)))
    (cases_eq x p)))
    (cases_eq x y)

-- p, who stands in queue q and nowhere else, is taken out of q, and no other queue changes
pub taken_out : (p q : ℕ) (f : ℕ → List ℕ) (a b : List ℕ) → f q ≡ a ++ p ∷ b → occurs p a ≡ 0 → occurs p b ≡ 0 → ((i : ℕ) → i ≢ q → occurs p (f i) ≡ 0)
    → (λ i. without p (f i)) ≡ put f q (a ++ b)
taken_out p q f a b e n m away = fun_ext (λ i. ⊎_elim
    (λ (d : i ≡ q). rw (d, put_same f q (a ++ b), e) (without_split p a b n m))
    (λ (d : i ≢ q). without_absent p (f i) (away i d) ∙ sym (put_other f q (a ++ b) i d)) (cases_eq i q))

-- ---- zeros

pub zeros : (n p : ℕ) → ◌≡◌ {A = ℕ} (get_or (replicate n 0) p 0) 0
zeros zero p = refl
zeros (suc n) zero = refl
zeros (suc n) (suc p) = zeros n p

-- ---- arrays with the entries of a function

pub zero_entries : (n : ℕ) → Entries n (replicate n 0) (λ i. 0)
zero_entries n = record { long = length-replicate n 0; each = zeros n }

module _ {n : ℕ} {t : List ℕ} {f : ℕ → ℕ} (E : Entries n t f) where
  -- the same entries are the same array
  pub one_array : {t' : List ℕ} → Entries n t' f → t ≡ t'
  one_array {t'} E' = ext_get_or 0 t t' (E.long ∙ sym E'.long) (λ i h. E.each i ∙ sym (E'.each i))

  pub set_entries : (i v : ℕ) → i < n → Entries n (set t i v) (put f i v)
  set_entries i v h = record {
    long = length-set t i v ∙ E.long;
    each = λ j. put_cases (λ (a : ℕ). get_or (set t i v) j 0 ≡ a) f i v j (λ e. rw e (get_or-set_same t i v 0 (omega (arith, E.long)))) (λ d. get_or-set_other t i j v 0 d ∙ E.each j);
  }
