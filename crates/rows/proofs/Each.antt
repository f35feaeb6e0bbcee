-- One row for each process: there are no second such rows.
-- Assumes nothing.
use Prim.Native.Nat.{ℕ}
use mathlib.Core.List.{List}
use mathlib.Core.Path.{◌≡◌, sym, ◌∙◌}
use lib.Seq.{ext_get_or}
use Rattle.rows.specs.Row.{bare, Each}
use Rattle.rows.specs.declared.Row.{Row}

pub one_each : {f : ℕ → Row} {l l' : List Row} → Each f l → Each f l' → l ≡ l'
one_each {f} {l} {l'} e e' = ext_get_or (bare 0) l l' (e.long ∙ sym e'.long) (λ i h. let p = rw e.long at h in e.at i (bare 0) p ∙ sym (e'.at i (bare 0) p))
