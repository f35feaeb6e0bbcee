-- `reasons::reason_of` meets its contract. Assumes nothing.
use Rattle.procs.specs.Stands as Stands
use Rattle.queues.specs.Queue.{tables_of}
use Rattle.reasons.proofs.reason_of.Goals as goal
use Rattle.reasons.specs.Numbered.{reason_at}
use Rattle.rows.proofs.Places.{position_low}
use Rattle.rows.specs.Places.{spot_in}
use Rattle.std.proofs.Common.{rules, ◌≡◌, eqb, sym, ◌∙◌}
use native.Mathlib.Nat.{le_of_lt}

pub returns-then-eq : goal.returns-then-eq
unfolding reason_at Stands.numbers
returns-then-eq c =
    let same : c.eq.result ≡ eqb c.args.p.0 c.args.k.running.0 = search rules in
    rw (sym same ∙ c.if-eq.true)

pub returns-then-eq-2 : goal.returns-then-eq-2
unfolding reason_at Stands.numbers
returns-then-eq-2 c =
    let same : c.eq.result ≡ eqb c.args.p.0 c.args.k.running.0 = search rules in
    let null : c.eq-2.result ≡ eqb c.args.p.0 0 = search rules in
    rw (sym same ∙ c.if-eq.false, sym null ∙ c.if-eq-2.true)

pub reason_at-requires : goal.reason_at-requires
unfolding spot_in
reason_at-requires c = rw c.spot_of.ensures (le_of_lt (position_low _))

pub returns : goal.returns
unfolding reason_at Stands.numbers tables_of
returns c =
    let same : c.eq.result ≡ eqb c.args.p.0 c.args.k.running.0 = search rules in
    let null : c.eq-2.result ≡ eqb c.args.p.0 0 = search rules in
    rw (sym same ∙ c.if-eq.false, sym null ∙ c.if-eq-2.false, ← c.spot_of.ensures, ← c.class_of.ensures) c.reason_at.ensures
