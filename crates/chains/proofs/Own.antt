-- Where every buffer is linked to itself, each message has one buffer.
-- Assumes nothing.
use Prim.Native.Nat.{ℕ, zero, suc, ◌≤◌, ◌<◌}
use mathlib.Core.Path.{◌≡◌, refl, sym, ap, ◌∙◌, subst}
use mathlib.Core.Bool.{Bool, true, false, not, ◌&&◌}
use mathlib.Core.Logic.{◌≢◌, ⊎_elim}
use mathlib.Core.List.{List}
use native.Mathlib.Omega.{arith}
use lib.ListN.{length, get_or}
use borrow.Author.Tests.{lt-ltb, le-ltb}
use Rattle.lists.specs.Lists.{put, occurs, total}
use Rattle.lists.proofs.Laws.{le?, put_same, put_other, put_cases, one_same, one_other, total-same, total_zero, total_change}
use Rattle.rings.specs.Decides.{Decides}
use Rattle.rings.proofs.Decisions.{decides_as}
use Rattle.bits.specs.Word.{bit, bits, width}
use Rattle.chains.specs.Led.{after}
use Rattle.chains.specs.Links.{run}
use Rattle.chains.specs.Chained.{Chained, Separate, Single, Ends, nil, end, at, Passed}
use Rattle.chains.proofs.Bits.{zero_off}
use Rattle.chains.proofs.Reading.{chained_whole, passed_all}

module _ (t : List ℕ) where
  stays : (n b : ℕ) → after t b ≡ b → occurs b (run t n b) ≡ n
  unfolding run
  stays zero b e = refl
  stays (suc n) b e = omega (arith, one_same b, stays n b e, ap (λ (x : ℕ). occurs b (run t n x)) e)

  strays : (n b p : ℕ) → after t b ≡ b → b ≢ p → occurs p (run t n b) ≡ 0
  unfolding run
  strays zero b p e d = refl
  strays (suc n) b p e d = omega (arith, one_other b p d, strays n b p e d, ap (λ (x : ℕ). occurs p (run t n x)) e)

module _ (t need : List ℕ) (free : ℕ → Bool) (h : Separate t) where
  -- a buffer stands only in the list that begins with it
  sole : (p : ℕ) → p < width → total width (λ b. occurs p (at t need b)) ≡ get_or need p 0
  sole p i =
      let f : ℕ → ℕ = λ b. occurs p (at t need b) in
      let g : ℕ → ℕ = put (λ b. 0) p (get_or need p 0) in
      omega (
        arith,
        total-same width f g (λ b k. put_cases (λ (x : ℕ). f b ≡ x) (λ b. 0) p (get_or need p 0) b
            (λ (e : b ≡ p). subst (λ (x : ℕ). occurs p (at t need x) ≡ get_or need p 0) (sym e) (stays t (get_or need p 0) p (h p i)))
            (λ (d : b ≢ p). strays t (get_or need b 0) b p (h b k) d)),
        total_change width (λ b. 0) g p i (λ b d. put_other (λ b. 0) p (get_or need p 0) b d),
        total_zero width (λ b. 0) (λ b k. refl),
        put_same (λ b. 0) p (get_or need p 0),
      )

  all_single : Chained t need free → (b : ℕ) → b < width → Single need free b
  all_single c b i = sym (sole b i) ∙ chained_whole t need free c b ∙ ap (λ (v : Bool). bit (v && not (free b))) (lt-ltb b width i)

  single_ends : (n b : ℕ) (v : Bool) → after t b ≡ b → n ≡ bit v → Ends t n b
  single_ends n b true e z = rw z (end e)
  single_ends n b false e z = rw z nil

  singles_passed : ((b : ℕ) → b < width → Single need free b) → Passed t need free width (bits 0)
  singles_passed s = record {
    ends = λ b i. single_ends (get_or need b 0) b (not (free b)) (h b i) (s b i);
    sums = λ p. ⊎_elim
        (λ (k : width ≤ p). omega (arith, ap bit (zero_off p), total_zero width (λ b. occurs p (at t need b)) (λ b i. strays t (get_or need b 0) b p (h b i) (λ e. omega arith)), ap (λ (v : Bool). bit (v && not (free p))) (le-ltb p width k)))
        (λ (i : p < width). omega (arith, ap bit (zero_off p), sole p i, s p i, ap (λ (v : Bool). bit (v && not (free p))) (lt-ltb p width i)))
        (le? width p);
  }

  pub decided_own : length need ≡ width → (r : Bool) → Decides r ((b : ℕ) → b < width → Single need free b) → Decides r (Chained t need free)
  decided_own k r = decides_as (Chained t need free) r (λ s. passed_all t need free (singles_passed s) k (λ p i e. h p i)) all_single
