-- The store: what a message written in its buffers changes, that it changes nothing of any other, and that it is read as it was written.
-- Assumes nothing.
use Prim.Native.Nat.{ℕ, suc, ◌+◌, ◌-◌, ◌*◌, ◌≤◌, ◌<◌}
use mathlib.Core.List.{List, [], ◌∷◌, ◌++◌}
use mathlib.Core.Logic.{◌≢◌, ◌⊎◌, inl, inr, ⊎_elim}
use mathlib.Core.Path.{◌≡◌, refl, sym, ap, ◌∙◌, subst}
use native.Mathlib.Omega.{arith}
use lib.ListN.{length, take, drop, get_or, length-append, length-take, length-drop, get_or-append}
use lib.Seq.{length-take-le, get_or-take, get_or-drop, get_or-append-add, ext_get_or}
use Rattle.lists.proofs.Laws.{le?, one_same}
use Rattle.lists.specs.Lists.{occurs}
use Rattle.plain.specs.Sizes.{buffers, buffer_size, store_size}
use Rattle.promise.specs.Pages.{place}
use Rattle.promise.specs.Promise.{written, poured, gathered}
use Rattle.promise.proofs.Places.{AreBuffers, first_is, rest_are, inside, place-first, place_rest, place_cases, only, places_apart}

-- a part of a list, put anew: b from a on
module _ (l : List ℕ) (a : ℕ) (b : List ℕ) (fits : a + length b ≤ length l) where
  abbrev anew : List ℕ
  anew = take a l ++ (b ++ drop (length b) (drop a l))

  before : length (take a l) ≡ a
  before = length-take-le a l (omega arith)

  anew_long : length anew ≡ length l
  anew_long = omega (
    arith,
    length-append (take a l) (b ++ drop (length b) (drop a l)),
    length-append b (drop (length b) (drop a l)),
    before,
    length-drop (length b) (drop a l),
    length-drop a l,
  )

  -- there it stands
  anew_there : (i : ℕ) → i < length b → get_or anew (a + i) 0 ≡ get_or b i 0
  anew_there i h =
      let e : a + i ≡ length (take a l) + i = omega (arith, before) in
      rw e (get_or-append-add (take a l) (b ++ drop (length b) (drop a l)) i 0 ∙ get_or-append b (drop (length b) (drop a l)) 0 i h)

  -- and nothing else is changed
  anew_elsewhere : (i : ℕ) → (i < a) ⊎ (a + length b ≤ i) → get_or anew i 0 ≡ get_or l i 0
  anew_elsewhere i = ⊎_elim
      (λ (h : i < a). get_or-append (take a l) (b ++ drop (length b) (drop a l)) 0 i (omega (arith, before)) ∙ get_or-take a l i 0 h)
      (λ (h : a + length b ≤ i).
      let n : ℕ = i - (a + length b) in
      let e : i ≡ length (take a l) + (length b + n) = omega (arith, before) in
      rw e (get_or-append-add (take a l) (b ++ drop (length b) (drop a l)) (length b + n) 0
      ∙ (get_or-append-add b (drop (length b) (drop a l)) n 0
      ∙ (get_or-drop (length b) (drop a l) n 0 ∙ (get_or-drop a l (length b + n) 0 ∙ ap (λ (j : ℕ). get_or l j 0) (omega (arith, before)))))))

-- ---- what stands in buffers

-- what is left of the bytes for n + 1 buffers once the first has its own, and of those for none
left : (n i : ℕ) → i ≤ buffer_size * suc n → i - buffer_size ≤ buffer_size * n
unfolding buffer_size
left n i h = omega arith

none_left : (i : ℕ) → buffer_size * 0 ≤ i
unfolding buffer_size
none_left i = omega arith

part_long : (store : List ℕ) (x : ℕ) → length store ≡ store_size → x < buffers → length (take buffer_size (drop (buffer_size * x) store)) ≡ buffer_size
part_long store x e h = length-take-le buffer_size (drop (buffer_size * x) store) (omega (arith, e, length-drop (buffer_size * x) store, inside x buffer_size h (omega arith)))

-- each byte in its place
pub gathered-at : (l store : List ℕ) → length store ≡ store_size → AreBuffers l → (i : ℕ) → i < buffer_size * length l → get_or (gathered store l) i 0 ≡ get_or store (place l i) 0
unfolding gathered
gathered-at [] store e r = λ i h. absurd (omega (arith, none_left i))
gathered-at (x ∷ l) store e r = place_cases x l (λ i j. i < buffer_size * suc (length l) → get_or (part ++ gathered store l) i 0 ≡ get_or store j 0)
    (λ i c h. get_or-append part (gathered store l) 0 i (omega (arith, long)) ∙ (get_or-take buffer_size (drop (buffer_size * x) store) i 0 c ∙ get_or-drop (buffer_size * x) store i 0))
    (λ i h. ap (λ (j : ℕ). get_or (part ++ gathered store l) (j + i) 0) (sym long)
    ∙ (get_or-append-add part (gathered store l) i 0 ∙ gathered-at l store e (rest_are x l r) i (omega (arith, left (length l) (suc (buffer_size + i)) h))))
  where
    part : List ℕ
    part = take buffer_size (drop (buffer_size * x) store)

    long : length part ≡ buffer_size
    long = part_long store x e (first_is x l r)

pub gathered_long : (l store : List ℕ) → length store ≡ store_size → AreBuffers l → length (gathered store l) ≡ buffer_size * length l
unfolding gathered buffer_size
gathered_long [] store e r = omega arith
gathered_long (x ∷ l) store e r =
    omega (arith, length-append (take buffer_size (drop (buffer_size * x) store)) (gathered store l), part_long store x e (first_is x l r), gathered_long l store e (rest_are x l r))

-- ---- a message written in its buffers

take_short : (n : ℕ) (b : List ℕ) → (length (take n b) ≤ n) × (length (take n b) ≤ length b)
take_short n b = omega (arith, length-take n b)

module _ (store : List ℕ) (x : ℕ) (b : List ℕ) (e : length store ≡ store_size) (h : x < buffers) where
  fits : buffer_size * x + length (take buffer_size b) ≤ length store
  fits = omega (arith, e, inside x (length (take buffer_size b)) h (take_short buffer_size b).0)

  written_long : length (written store x (take buffer_size b)) ≡ store_size
  written_long = anew_long store (buffer_size * x) (take buffer_size b) fits ∙ e

-- no byte changes but at the message's places
pub poured_elsewhere : (l store b : List ℕ) → length store ≡ store_size → AreBuffers l
    → (j : ℕ) → ((i : ℕ) → i < length b → place l i ≢ j) → get_or (poured store l b) j 0 ≡ get_or store j 0
unfolding poured
poured_elsewhere [] store b e r j away = refl
poured_elsewhere (x ∷ l) store b e r j away =
    poured_elsewhere l (written store x part) (drop buffer_size b) (written_long store x b e low) (rest_are x l r) j
    (λ i h same. away (buffer_size + i) (omega (arith, length-drop buffer_size b)) (place_rest x l i ∙ same))
    ∙ anew_elsewhere store (buffer_size * x) part (fits store x b e low) j (⊎_elim
    (λ (g : buffer_size * x ≤ j). inr (⊎_elim (λ z. z) (λ z. absurd (touched g z)) (le? (buffer_size * x + length part) j)))
    (λ (g : j < buffer_size * x). inl g)
    (le? (buffer_size * x) j))
  where
    part : List ℕ
    part = take buffer_size b

    low : x < buffers
    low = first_is x l r

    touched : buffer_size * x ≤ j → j < buffer_size * x + length part → ⊥
    touched g z =
        let k : ℕ = j - buffer_size * x in
        away k (omega (arith, take_short buffer_size b)) (place-first x l k (omega (arith, take_short buffer_size b)) ∙ omega arith)

-- and these hold it
pub poured-at : (l store b : List ℕ) → length store ≡ store_size → AreBuffers l → ((j : ℕ) → occurs j l ≤ 1) → length b ≤ buffer_size * length l
    → (i : ℕ) → i < length b → get_or (poured store l b) (place l i) 0 ≡ get_or b i 0
unfolding poured
poured-at [] store b e r once long = λ i h. absurd (omega (arith, none_left i))
poured-at (x ∷ l) store b e r once long = place_cases x l (λ i j. i < length b → get_or (poured first l (drop buffer_size b)) j 0 ≡ get_or b i 0)
    (λ i c h. poured_elsewhere l first (drop buffer_size b) whole (rest_are x l r) (buffer_size * x + i) (λ k g. apart i k c g)
    ∙ (anew_there store (buffer_size * x) (take buffer_size b) (fits store x b e (first_is x l r)) i (omega (arith, length-take buffer_size b)) ∙ get_or-take buffer_size b i 0 c))
    (λ i h. poured-at l first (drop buffer_size b) whole (rest_are x l r) (λ j. omega (arith, once j)) rest i (omega (arith, length-drop buffer_size b)) ∙ get_or-drop buffer_size b i 0)
  where
    first : List ℕ
    first = written store x (take buffer_size b)

    whole : length first ≡ store_size
    whole = written_long store x b e (first_is x l r)

    rest : length (drop buffer_size b) ≤ buffer_size * length l
    rest = omega (arith, length-drop buffer_size b, left (length l) (length b) long)

    -- the others write nothing in the first
    apart : (i k : ℕ) → i < buffer_size → k < length (drop buffer_size b) → place l k ≢ buffer_size * x + i
    apart i k c g same = places_apart (x ∷ []) l i k (omega arith) (omega (arith, rest))
        (λ y o. subst (λ (z : ℕ). occurs z l ≡ 0) (only x y o) (omega (arith, once x, one_same x))) (place-first x [] i c ∙ sym same)

pub poured_long : (l store b : List ℕ) → length store ≡ store_size → AreBuffers l → length (poured store l b) ≡ store_size
unfolding poured
poured_long [] store b e r = e
poured_long (x ∷ l) store b e r = poured_long l (written store x (take buffer_size b)) (drop buffer_size b) (written_long store x b e (first_is x l r)) (rest_are x l r)

-- what was written is read again
pub poured_there : (l store b : List ℕ) → length store ≡ store_size → AreBuffers l → ((j : ℕ) → occurs j l ≤ 1) → length b ≤ buffer_size * length l
    → take (length b) (gathered (poured store l b) l) ≡ b
poured_there l store b e r once h =
    let later : List ℕ = poured store l b in
    let whole : length later ≡ store_size = poured_long l store b e r in
    let long : length (take (length b) (gathered later l)) ≡ length b = length-take-le (length b) (gathered later l) (omega (arith, h, gathered_long l later whole r)) in
    ext_get_or 0 (take (length b) (gathered later l)) b long
    (λ i k.
    let c : i < length b = omega (arith, long) in
    get_or-take (length b) (gathered later l) i 0 c ∙ (gathered-at l later whole r i (omega arith) ∙ poured-at l store b e r once h i c))

-- and what stands in other buffers stands there as it stood
pub gathered_other : (l store b k : List ℕ) → length store ≡ store_size → AreBuffers l → length b ≤ buffer_size * length l
    → AreBuffers k → ((j : ℕ) → 1 ≤ occurs j l → occurs j k ≡ 0) → gathered (poured store l b) k ≡ gathered store k
gathered_other l store b k e r h are apart =
    let later : List ℕ = poured store l b in
    let whole : length later ≡ store_size = poured_long l store b e r in
    let long : length (gathered later k) ≡ buffer_size * length k = gathered_long k later whole are in
    ext_get_or 0 (gathered later k) (gathered store k) (long ∙ sym (gathered_long k store e are))
    (λ i o.
    let c : i < buffer_size * length k = omega (arith, long) in
    gathered-at k later whole are i c
    ∙ (poured_elsewhere l store b e r (place k i) (λ j z. places_apart l k j i (omega (arith, h)) c apart) ∙ sym (gathered-at k store e are i c)))
