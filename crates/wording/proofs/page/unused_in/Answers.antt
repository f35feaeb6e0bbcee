-- `wording::page::unused_in` meets its contract.
-- Assumes nothing.
use Rattle.plain.specs.Sizes.{processes}
use Rattle.std.proofs.Common.{rules, arith, ◌≡◌, length}
use Rattle.std.proofs.lemmas.Grind.{common_steps}
use Rattle.std.specs.List.{count_by}
use Rattle.rows.specs.declared.Row.{Row}
use Rattle.wording.proofs.PageLaws.{counted}
use Rattle.wording.specs.Page.{is_used}
use Rattle.wording.proofs.page.unused_in.Goals as goal
use mathlib.Core.Bool.{not}

pub returns : goal.returns
returns c =
    let all : length c.args.rows ≡ processes = search rules in
    let count : c.count.result ≡ count_by (λ (r : Row). not (is_used r)) c.args.rows = grind (arith, common_steps) in
    rw (count, counted c.args.rows, all)
