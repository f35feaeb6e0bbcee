-- `script::hex::put_bytes` meets its contract. The loop's invariant: the first `i` bytes are laid over the area.
-- Assumes nothing.
use Rattle.answers.proofs.AreaLaws.{written_none, written_all, laid-byte}
use Rattle.script.proofs.HexLaws.{spelled-length, spelled_byte}
use Rattle.script.proofs.hex.put_bytes.Goals as goal
use Rattle.script.specs.Spelled.{spelled}
use lib.ListN.{get_or}
use lib.Seq.{take_all}
use mathlib.Core.Path.{◌≡◌, ◌∙◌}
use native.Mathlib.Omega.{arith}

pub returns-then-out-n : goal.returns-then-out-n
returns-then-out-n c = let s = c.args in written_none _ s.out.now (simp spelled-length (omega arith))

pub loop-i-preserved : goal.loop-i-preserved
loop-i-preserved c =
    let w = c.args.w.now in
    let l = c.loop-i in
    let long = spelled-length w in
    let byte : c.unwrap_or.result ≡ get_or (spelled w) l.i 0 = c.unwrap_or.ensures ∙ spelled_byte w l.i (omega arith) c.pair.ensures in
    rw (byte, l.invariant) (laid-byte c.args.out.now (spelled w) l.i (omega arith) (omega arith))

pub returns : goal.returns
returns c =
    let s = c.args in
    let l = c.loop-i in
    let long = spelled-length s.w.now in
    written_all (spelled s.w.now) s.out.now l.out _ (omega arith) (l.invariant ∙ rw (take_all l.i (spelled s.w.now) (omega arith))) (omega arith)
