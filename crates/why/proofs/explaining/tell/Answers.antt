-- `why::explaining::tell` meets its contract.
-- Assumes nothing.
use Rattle.script.proofs.NumberLaws.{number_none, number_some}
use Rattle.script.specs.Grammar.{number}
use Rattle.telling.proofs.Laws.{gives_as}
use Rattle.why.proofs.explaining.tell.Goals as goal
use native.Mathlib.Omega.{arith}

pub returns-in_default : goal.returns-in_default
returns-in_default c = gives_as (omega arith) (λ good text t. rw (number_none (number c.args.word.now) c.read_number.ensures c.in_default.is) t) c.refuse.ensures

pub returns : goal.returns
returns c = gives_as (omega arith) (λ good text t. rw (number_some (number c.args.word.now) c.read_number.ensures c.in-Some.is) t) c.about.ensures
