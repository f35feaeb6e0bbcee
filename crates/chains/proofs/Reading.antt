-- Walks along the chains: how the answer of a walk follows from that of the rest of it, what all walks show together, and that there is one reading.
-- Assumes nothing.
use Prim.Native.Nat.{ℕ, zero, suc, ◌+◌, ◌-◌, ◌^◌, ◌≤◌, ◌<◌}
use mathlib.Core.Path.{◌≡◌, refl, sym, ap, ◌∙◌, subst, fun_ext}
use mathlib.Core.Bool.{Bool, true, false, true≢false}
use mathlib.Core.Logic.{◌≢◌, ⊎_elim}
use mathlib.Core.List.{List, []}
use native.Mathlib.Omega.{arith}
use lib.ListN.{length, get_or, get_or-eq_default}
use lib.Dec.{eqb}
use borrow.Author.Tests.{eqb-true, eqb-false}
use Rattle.std.specs.Prelude.{Option, Some, None, IfSome}
use Rattle.std.specs.Option.{option_eq}
use Rattle.lists.specs.Lists.{put, one, occurs, total}
use Rattle.std.proofs.lemmas.Bool.{cases_eq}
use Rattle.lists.proofs.Laws.{le?, put_same, put_other, one_same, one_other, total-same}
use Rattle.rings.specs.Decides.{Decides}
use Rattle.rings.proofs.Decisions.{decides_as}
use Rattle.bits.specs.Word.{bit, word, bits, width}
use Rattle.chains.specs.Led.{after, Led, none, last, on}
use Rattle.chains.specs.Links.{run}
use Rattle.chains.specs.Chained.{used, Chained, Ends, nil, end, far, Fits, Walked, AllWalked, Alone, at, Passed}
use Rattle.chains.proofs.Laws.{led_run, run_length}
use Rattle.chains.proofs.Bits.{on_below, put_bits, zero_off, word_zero}
use Rattle.chains.proofs.Words.{word_fits}

-- ---- one walk

-- x was to be reached, and is no longer
less : (s : ℕ → Bool) (x : ℕ) → s x ≡ true → (rest : ℕ → Bool) → ((p : ℕ) → rest p ≡ put s x false p) → (p : ℕ) → bit (rest p) + one x p ≡ bit (s p)
less s x e rest d p = ⊎_elim
    (λ (q : x ≡ p). rw (d p, ← q, put_same s x false, e, one_same x))
    (λ (q : x ≢ p). rw (d p, put_other s x false p (λ z. q (sym z)), one_other x p q) (omega arith))
    (cases_eq x p)

module _ (t : List ℕ) where
  -- where n links lead from b
  pub spot : ℕ → ℕ → ℕ
  spot zero b = b
  spot (suc n) b = spot n (after t b)

  spot_on : (n b : ℕ) → spot (suc n) b ≡ after t (spot n b)
  unfolding spot
  spot_on zero b = refl
  spot_on (suc n) b = spot_on n (after t b)

  run_on : (n b p : ℕ) → occurs p (run t (suc n) b) ≡ occurs p (run t n b) + one (spot n b) p
  unfolding run spot
  run_on zero b p = omega arith
  run_on (suc n) b p = omega (arith, run_on n (after t b) p)

  run-le : (i n b p : ℕ) → i ≤ n → occurs p (run t i b) ≤ occurs p (run t n b)
  unfolding run
  run-le zero n b p h = omega arith
  run-le (suc i) zero b p h = absurd (omega arith)
  run-le (suc i) (suc n) b p h = omega (arith, run-le i n (after t b) p (omega arith))

  ends_at : (n b : ℕ) → after t (spot n b) ≡ spot n b → Ends t (suc n) b
  unfolding spot
  ends_at zero b e = end e
  ends_at (suc n) b e = far (ends_at n (after t b) e)

  at_end : (n b : ℕ) → Ends t (suc n) b → after t (spot n b) ≡ spot n b
  unfolding spot
  at_end zero b (end e) = e
  at_end (suc n) b (far e) = at_end n (after t b) e

  module _ (b : ℕ) (todo : ℕ → Bool) where
    -- i buffers are reached, the last of them is `last`, x comes next, and the bits of a word are still to be reached
    pub record Reached (i x last left : ℕ) : Type 0 where
      pub next : x ≡ spot i b
      pub behind : last ≡ spot (i - 1) b
      pub fits : left < 2 ^ width
      pub sums : (p : ℕ) → bit (bits left p) + occurs p (run t i b) ≡ bit (todo p)

    module _ (i x last left : ℕ) (r : Reached i x last left) where
      pub reached_on : bits left x ≡ true → (rest : ℕ) → rest ≡ word width (put (bits left) x false) → (y : ℕ) → y ≡ after t x → Reached (i + 1) y x rest
      reached_on e rest d y g =
          let k : i + 1 ≡ suc i = omega arith in
          let j : suc i - 1 ≡ i = omega arith in
          let gone = put_bits width left rest x false r.fits (on_below width left x r.fits e) d in
          rw k (record {
            next = g ∙ ap (after t) r.next ∙ sym (spot_on i b);
            behind = r.next ∙ ap (λ (m : ℕ). spot m b) (sym j);
            fits = word_fits (put (bits left) x false) d;
            sums = λ p. omega (arith, r.sums p, run_on i b p, ap (λ (z : ℕ). one z p) r.next, less (bits left) x e (bits rest) gone p);
          })

      pub reached_shut : (n : ℕ) → i < n → bits left x ≡ false → Fits t n b todo → ⊥
      reached_shut n h e f = omega (arith, r.sums x, f.there x, run-le (suc i) n b x (omega arith), run_on i b x, ap (λ (z : ℕ). one z x) r.next, one_same x, ap bit e)

      pub reached_end : x ≡ last → Walked t i b todo (Some left)
      reached_end e = (go i r.next r.behind, r.sums)
        where
          go : (n : ℕ) → x ≡ spot n b → last ≡ spot (n - 1) b → Ends t n b
          go zero f g = nil
          go (suc n) f g = let j : suc n - 1 ≡ n = omega arith in ends_at n b (sym (spot_on n b) ∙ sym f ∙ e ∙ g ∙ ap (λ (m : ℕ). spot m b) j)

      pub reached_open : x ≢ last → Fits t i b todo → ⊥
      reached_open d f = d (go i r.next r.behind f.ends)
        where
          go : (n : ℕ) → x ≡ spot n b → last ≡ spot (n - 1) b → Ends t n b → x ≡ last
          go zero f g h = f ∙ sym g
          go (suc n) f g h = let j : suc n - 1 ≡ n = omega arith in f ∙ spot_on n b ∙ at_end n b h ∙ sym (g ∙ ap (λ (m : ℕ). spot m b) j)

    pub reached_none : (left : ℕ) → left < 2 ^ width → ((p : ℕ) → bits left p ≡ todo p) → Reached 0 b b left
    unfolding run spot
    reached_none left h e = record { next = refl; behind = refl; fits = h; sums = λ p. omega (arith, ap bit (e p)) }

-- ---- lists and walks

module _ (t : List ℕ) where
  pub led_ends : {b : ℕ} {l : List ℕ} → Led t b l → Ends t (length l) b
  led_ends none = nil
  led_ends (last e) = end e
  led_ends (on d) = far (led_ends d)

  pub run_led : (n b : ℕ) → Ends t n b → Led t b (run t n b)
  unfolding run
  run_led zero b nil = none
  run_led (suc zero) b (end e) = last e
  run_led (suc (suc n)) b (far e) = on (run_led (suc n) (after t b) e)

  nothing : (b : ℕ) → run t 0 b ≡ []
  unfolding run
  nothing b = refl

-- ---- all walks

total_upto : (n b : ℕ) (f : ℕ → ℕ) → b < n → f b + total b f ≤ total n f
unfolding total
total_upto zero b f h = absurd (omega arith)
total_upto (suc n) b f h = ⊎_elim (λ (e : b ≡ n). rw e (omega arith)) (λ (d : b ≢ n). omega (arith, total_upto n b f (omega arith))) (cases_eq b n)

total-more : (n : ℕ) (f : ℕ → ℕ) → total (n + 1) f ≡ f n + total n f
unfolding total
total-more n f = let e : n + 1 ≡ suc n = omega arith in rw e

module _ (t need : List ℕ) (free : ℕ → Bool) where
  -- any lists that the table holds are these
  pub chained_at : (c : Chained t need free) (b : ℕ) → c.0 b ≡ at t need b
  chained_at c b = led_run t (c.1.led b) ∙ ap (λ (n : ℕ). run t n b) (c.2 b)

  pub chained_ends : Chained t need free → (b : ℕ) → Ends t (get_or need b 0) b
  chained_ends c b = subst (λ (n : ℕ). Ends t n b) (c.2 b) (led_ends t (c.1.led b))

  pub chained_whole : Chained t need free → (p : ℕ) → total width (λ b. occurs p (at t need b)) ≡ bit (used free p)
  chained_whole c p = total-same width (λ b. occurs p (at t need b)) (λ b. occurs p (c.0 b)) (λ b h. ap (occurs p) (sym (chained_at c b))) ∙ c.1.whole p

  pub passed_none : (s : ℕ → Bool) → ((p : ℕ) → s p ≡ used free p) → Passed t need free 0 s
  unfolding total
  passed_none s e = record { ends = λ j h. absurd (omega arith); sums = λ p. omega (arith, ap bit (e p)) }

  module _ (b : ℕ) (s : ℕ → Bool) (P : Passed t need free b s) where
    pub passed_on : (l : ℕ) → Walked t (get_or need b 0) b s (Some l) → Passed t need free (b + 1) (bits l)
    unfolding total
    passed_on l w = record {
      ends = λ j h. ⊎_elim (λ (e : j ≡ b). rw e w.0) (λ (d : j ≢ b). P.ends j (omega arith)) (cases_eq j b);
      sums = λ p. omega (arith, w.1 p, P.sums p, total-more b (λ j. occurs p (at t need j)));
    }

    pub passed_stuck : b < width → (Fits t (get_or need b 0) b s → ⊥) → Chained t need free → ⊥
    passed_stuck h r c = r (record { there = λ p. omega (arith, P.sums p, chained_whole c p, total_upto width b (λ j. occurs p (at t need j)) h); ends = chained_ends c b })

  -- all are walked and none is left
  module _ (P : Passed t need free width (bits 0)) where
    pub passed_all : length need ≡ width → ((p : ℕ) → p < width → Alone t free p) → Chained t need free
    passed_all k a = (
      at t need,
      record {
        led = λ b. run_led t (get_or need b 0) b (every b);
        whole = λ p. omega (arith, P.sums p, ap bit (zero_off p));
        beyond = λ b h. rw (past b h) (empty b);
        alone = a;
      },
      λ b. run_length t (get_or need b 0) b,
    )
      where
        past : (b : ℕ) → width ≤ b → get_or need b 0 ≡ 0
        past b h = get_or-eq_default need 0 (omega arith)

        empty : (b : ℕ) → run t 0 b ≡ []
        empty b = nothing t b

        every : (b : ℕ) → Ends t (get_or need b 0) b
        every b = ⊎_elim (λ (h : width ≤ b). rw (past b h) nil) (P.ends b) (le? width b)

  pub passed_left : (w : ℕ) → w < 2 ^ width → Passed t need free width (bits w) → Chained t need free → w ≡ 0
  passed_left w h P c = word_zero width w h (λ p. omega (arith, P.sums p, chained_whole c p))

-- ---- the decision

module _ (t need : List ℕ) (free : ℕ → Bool) where
  pub decided : (w : Option ℕ) → IfSome w (λ l. l < 2 ^ width) → AllWalked t need free w → option_eq eqb w (Some 0) ≡ true → length need ≡ width
      → (r : Bool) → Decides r ((p : ℕ) → p < width → Alone t free p) → Decides r (Chained t need free)
  decided None h a e k r = absurd (true≢false (sym e))
  decided (Some l) h a e k r =
      let z : l ≡ 0 = eqb-true l 0 e in
      decides_as (Chained t need free) r (λ f. passed_all t need free (subst (λ (x : ℕ). Passed t need free width (bits x)) z a) k f) (λ c. c.1.alone)

  pub undecided : (w : Option ℕ) → IfSome w (λ l. l < 2 ^ width) → AllWalked t need free w → option_eq eqb w (Some 0) ≡ false → Chained t need free → ⊥
  undecided None h a e = a
  undecided (Some l) h a e = λ c. eqb-false l 0 e (passed_left t need free l h a c)

-- ---- one reading

pub one-reading : (t need : List ℕ) (free : ℕ → Bool) (c d : Chained t need free) → c.0 ≡ d.0
one-reading t need free c d = fun_ext (λ b. chained_at t need free c b ∙ sym (chained_at t need free d b))
