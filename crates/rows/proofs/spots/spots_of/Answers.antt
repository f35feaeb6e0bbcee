-- `rows::spots::spots_of` meets its contract. Assumes nothing.
use Rattle.std.proofs.lemmas.Bool.{cases_eq}
use Rattle.procs.specs.Stands as Stands
use Rattle.queues.specs.Queue.{tables_of}
use Rattle.rows.proofs.spots.spots_of.Goals as goal
use Rattle.rows.specs.Places.{spot_in, spot_of}
use borrow.Author.Tests.{eq-eqb, ne_eqb}
use mathlib.Core.Logic.{◌≢◌, ⊎_elim}
use mathlib.Core.Path.{◌≡◌, ◌∙◌}

pub returns : goal.returns
unfolding spot_of spot_in Stands.numbers tables_of
returns c p h =
    let a = c.args in
    let r = a.k.running.0 in
    c.with_runner.ensures p h ∙ ⊎_elim
    (λ (e : p ≡ r). rw (eq-eqb p r e, e, c.class_of.ensures))
    (λ (d : p ≢ r). rw (ne_eqb p r d, c.everyone-at.ensures))
    (cases_eq p r)
