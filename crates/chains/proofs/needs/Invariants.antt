-- `chains::needs` meets its contract. The invariant: the entries below b are filled in. Assumes nothing.
use Prim.Native.Nat.{ℕ, ◌<◌}
use Rattle.bits.specs.Word.{width}
use Rattle.chains.proofs.needs.Given as goal
use Rattle.chains.specs.Links.{need_at}
use lib.ListN as listn
use lib.ListN.{get_or}
use mathlib.Core.Path.{◌≡◌}

abbrev pub invariant-loop-b : goal.invariant-loop-b
invariant-loop-b l = record {
  long : listn.length l.need ≡ width;
  filled : (i : ℕ) → i < l.b → get_or l.need i 0 ≡ need_at (get_or l.at i 0) (get_or l.length i 0);
}
