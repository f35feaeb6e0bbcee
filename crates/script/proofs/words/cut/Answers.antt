-- `script::words::cut` meets its contract.
-- Assumes nothing.
use Rattle.std.proofs.Common.{◌≡◌, sym, ◌∙◌, None, rules}
use Rattle.answers.specs.Ascii.{space}
use Rattle.script.proofs.WordLaws.{first_place, words_one, words_cut}
use Rattle.script.proofs.words.cut.Goals as goal

pub returns-in_err-end : goal.returns-in_err-end
returns-in_err-end c =
    let none : c.from_residual.result ≡ None = search rules in
    rw none (words_one c.args.s.now (sym (first_place space c.args.s.now _ c.memchr.ensures) ∙ c.in_err-end.was))

pub returns : goal.returns
returns c = words_cut c.args.s.now _ (sym (first_place space c.args.s.now _ c.memchr.ensures) ∙ c.in_ok-end.was)
