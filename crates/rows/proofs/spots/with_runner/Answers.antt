-- `rows::spots::with_runner` meets its contract. Assumes nothing.
use Rattle.std.proofs.lemmas.Bool.{cases_eq}
use Rattle.plain.specs.Sizes.{processes}
use Rattle.rows.proofs.Places.{decoded}
use Rattle.rows.proofs.spots.with_runner.Goals as goal
use borrow.Author.Rules.{rules}
use borrow.Author.Tests.{eq-eqb, ne_eqb}
use lib.ListN.{length}
use lib.Seq.{get_or-set_same, get_or-set_other}
use mathlib.Core.Logic.{◌≢◌, ⊎_elim}
use mathlib.Core.Path.{◌≡◌}
use native.Mathlib.Omega.{arith}

pub returns : goal.returns
returns c p h =
    let a = c.args in
    let long : length a.at.now ≡ processes = search rules in
    let m = c.mark.ensures in
    ⊎_elim
    (λ (e : p ≡ a.running.0). rw (c.set_entry.ensures, eq-eqb p a.running.0 e, e, get_or-set_same a.at.now a.running.0 c.mark.result 0 (omega arith), m) (decoded 1 a.class 0 (omega arith) (search rules) (omega arith)))
    (λ (d : p ≢ a.running.0). rw (c.set_entry.ensures, ne_eqb p a.running.0 d, get_or-set_other a.at.now a.running.0 p c.mark.result 0 d))
    (cases_eq p a.running.0)
