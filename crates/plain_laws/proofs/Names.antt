-- Names: which number is in a name, when a name is taken, and what a birth does to the counts.
-- Assumes nothing.
use Prim.Native.Nat.{ℕ, ◌+◌, ◌%◌, ◌≤◌, ◌<◌}
use mathlib.Core.Path.{◌≡◌, refl, ◌∙◌}
use mathlib.Core.Bool.{true}
use mathlib.Core.Logic.{◌≢◌, ⊎_elim}
use native.Mathlib.Omega.{arith}
use lib.Dec.{ltb, eqb}
use borrow.Author.Tests.{ltb-true, lt-ltb, eqb-true, eq-eqb, ne_eqb}
use Rattle.lists.specs.Lists.{put}
use Rattle.std.proofs.lemmas.Bool.{and_parts, cases_eq}
use Rattle.lists.proofs.Laws.{put_other, put_cases}
use Rattle.plain.specs.Sizes.{processes}
use Rattle.plain.specs.State.{Procs, places}
use Rattle.plain.specs.Names.{rounds, raised, name, bare, names, Births}
use Rattle.plain_laws.specs.History.{as_one}
use Rattle.plain_laws.specs.Names.{begins}

module _ (births : ℕ → ℕ) where
  pub bare-name : (p : ℕ) → p < processes → bare (name births p) ≡ p
  unfolding bare name
  bare-name p h = omega arith

  -- what is taken is the name of a number
  pub named : (n : ℕ) → names births n ≡ true → (bare n < processes) × (n ≡ name births (bare n))
  unfolding names
  named n e =
      let both = and_parts (ltb (bare n) processes) (eqb n (name births (bare n))) e in
      (ltb-true (bare n) processes both.0, eqb-true n (name births (bare n)) both.1)

  pub is_named : (n : ℕ) → bare n < processes → n ≡ name births (bare n) → names births n ≡ true
  unfolding names
  is_named n h e = rw (lt-ltb (bare n) processes h, eq-eqb n (name births (bare n)) e) refl

  -- a birth of p
  pub birth_sound : Births births → (p : ℕ) → 1 ≤ p → p < processes → Births (put births p (raised (births p)))
  unfolding raised
  birth_sound k p h h' = record {
    null = put_other births p (raised (births p)) 0 (omega arith) ∙ k.null;
    most = λ x. put_cases (λ (b : ℕ). b < rounds) births p (raised (births p)) x (λ e. omega arith) (λ d. k.most x);
    no_more = λ x b. put_other births p (raised (births p)) x (omega arith) ∙ k.no_more x b;
  }

-- ---- a count b, where the processes stand as in r and then as in r'

-- it stays where the number does not begin
pub unborn : (r r' : Procs) (b x : ℕ) → b < rounds → (places r x ≡ 0 → places r' x ≡ 0) → b ≡ (b + as_one (begins r r' x)) % rounds
unborn r r' b x h f = ⊎_elim
    (λ (z : places r x ≡ 0). rw (eq-eqb (places r x) 0 z, eq-eqb (places r' x) 0 (f z)) (omega arith))
    (λ (d : places r x ≢ 0). rw (ne_eqb (places r x) 0 d) (omega arith))
    (cases_eq (places r x) 0)

-- and is raised where it does
pub reborn : (r r' : Procs) (b x : ℕ) → places r x ≡ 0 → 1 ≤ places r' x → raised b ≡ (b + as_one (begins r r' x)) % rounds
unfolding raised
reborn r r' b x z h = rw (eq-eqb (places r x) 0 z, ne_eqb (places r' x) 0 (omega arith)) refl
