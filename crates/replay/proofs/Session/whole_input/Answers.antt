-- `replay::Session::whole_input` meets its contract, by the program's theorem.
-- Assumes nothing.
use Rattle.std.proofs.Common.{arith, rules, ◌≡◌, length}
use Rattle.plain.specs.Sizes.{store_size, buffer_size}
use Rattle.replay.proofs.Handing.{last_within, on_err}
use Rattle.replay.proofs.Theorems.{whole_replay}
use Rattle.replay.specs.Broken.{BrokenInput}
use Rattle.replay.proofs.Session.whole_input.Goals as goal

pub shared_ref_as_front-write_all : goal.shared_ref_as_front-write_all
shared_ref_as_front-write_all g c =
    let size : length c.every_turn.new.self.out ≡ 65536 = search rules in
    omega (arith, last_within c.in_ok-every_turn.ensures.ok c.finish-last.ensures)

pub returns-in_err-write_all-clause-err : goal.returns-in_err-write_all-clause-err
unfolding store_size buffer_size
returns-in_err-write_all-clause-err g c =
    let size : length c.every_turn.new.self.out ≡ 65536 = search rules in
    on_err c.from_residual-in_err-write_all.result (BrokenInput.at_the_end (whole_replay (search rules) c.in_ok-every_turn.ensures.ok (omega arith) c.finish-last.ensures))

pub returns-clause-ok : goal.returns-clause-ok
unfolding store_size buffer_size
returns-clause-ok g c =
    let size : length c.every_turn.new.self.out ≡ 65536 = search rules in
    whole_replay (search rules) c.in_ok-every_turn.ensures.ok (omega arith) c.finish-last.ensures
