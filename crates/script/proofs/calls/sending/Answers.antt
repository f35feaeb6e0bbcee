-- `script::calls::sending` meets its contract.
-- Assumes nothing.
use Rattle.std.proofs.Common.{◌≡◌, sym, ◌∙◌, Some, None, rules}
use Rattle.script.proofs.CallLaws.{sends}
use Rattle.script.proofs.calls.sending.Goals as goal

pub returns-in_err-n : goal.returns-in_err-n
returns-in_err-n c =
    let s = c.args in
    let none : c.from_residual.result ≡ None = search rules in
    rw none (sends s.m s.hex.now None (sym c.in_err-n.was ∙ c.count_bytes.ensures))

pub returns : goal.returns
returns c = let s = c.args in sends s.m s.hex.now (Some _) (sym c.in_ok-n.was ∙ c.count_bytes.ensures)
