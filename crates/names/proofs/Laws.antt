-- The birth counts that an array holds after each change, where it held some before, and the names by them.
-- Assumes nothing.
use Prim.Native.Nat.{ℕ, ◌<◌}
use mathlib.Core.Logic.{⊎_elim}
use mathlib.Core.Path.{◌≡◌, fun_ext}
use mathlib.Core.List.{List}
use native.Mathlib.Omega.{arith}
use lib.Dec.{eqb}
use lib.ListN.{length, get_or-eq_default}
use borrow.Author.Tests.{eq-eqb, ne_eqb}
use Rattle.lists.specs.Lists.{put}
use Rattle.std.proofs.lemmas.Bool.{cases_eq}
use Rattle.lists.proofs.Laws.{set_entries}
use Rattle.plain.specs.Names.{rounds, raised, Births}
use Rattle.plain.specs.Sizes.{processes}
use Rattle.rings.specs.Decides.{Decides}
use Rattle.names.specs.Counts.{count_in, Kept, born}

module _ {t : List ℕ} {births : ℕ → ℕ} (K : Kept t births) where
  pub counts_are : count_in t ≡ births
  counts_are = fun_ext K.each

  pub born_kept : (p : ℕ) → p < processes → Kept (born t p) (put births p (raised (births p)))
  unfolding born
  born_kept p h = rw (K.each p) (set_entries K p (raised (births p)) h)

-- bytes are sound counts if that of 0 is 0
pub null_unborn : (t : List ℕ) → length t ≡ processes → ((p : ℕ) → count_in t p < rounds) → Decides (eqb (count_in t 0) 0) (Births (count_in t))
null_unborn t long low = ⊎_elim
    (λ (e : count_in t 0 ≡ 0). rw (eq-eqb (count_in t 0) 0 e) (record { null = e; most = low; no_more = λ p h. get_or-eq_default t 0 (omega arith) }))
    (λ d. rw (ne_eqb (count_in t 0) 0 d) (λ (k : Births (count_in t)). d k.null))
    (cases_eq (count_in t 0) 0)
