-- `feed::feed` meets its contract. The loop's invariant: whatever the rest of the chunk leads to from here, the whole of it leads to.
-- Assumes nothing.
use Prim.Native.Nat.{ℕ, ◌-◌, ◌≤◌}
use Rattle.desk.specs.Theorems.{longest_text}
use Rattle.feed.proofs.BufferLaws.{capped_holds}
use Rattle.feed.proofs.Cutting.{ends_line, none_free, inside}
use Rattle.feed.proofs.Loop.{begun, line-more, stops_full, stops-at_end, stops_in_line}
use Rattle.feed.proofs.feed.Goals as goal
use Rattle.feed.specs.Cut.{newline}
use Rattle.script.proofs.WordLaws.{first_place}
use Rattle.std.specs.List.{position}
use borrow.Author.Rules.{rules}
use lib.ListN.{length, take, drop, length-drop}
use lib.Seq.{take_all}
use mathlib.Core.List.{List}
use mathlib.Core.Path.{◌≡◌, refl, sym, ◌∙◌}
use native.Mathlib.Omega.{arith}

-- what is left of a chunk
rest_is : (chunk : List ℕ) (used : ℕ) → take (length chunk - used) (drop used chunk) ≡ drop used chunk
rest_is chunk used = take_all (length chunk - used) (drop used chunk) (rw length-drop (omega arith))

pub loop-used-init : goal.loop-used-init
loop-used-init c = ((search rules, search rules, search rules, search rules, c.capped-held.ensures.bounded, λ e. refl), λ p h. begun h)

pub returns-then-out-t-le-LONGEST_TEXT-clause-feeds : goal.returns-then-out-t-le-LONGEST_TEXT-clause-feeds
returns-then-out-t-le-LONGEST_TEXT-clause-feeds c =
    let at = c.loop-used in
    let i = at.invariant.0 in
    let none : length c.args.out.now - at.t.length ≤ longest_text = omega (arith, i.1, c.if-out-t-le-LONGEST_TEXT.true) in
    λ p h. rw c.so_far.ensures (stops_full (at.invariant.1 p (rw c.capped-held.ensures.same (capped_holds h))) i.3 none i.4)

pub returns-in_default-clause-feeds : goal.returns-in_default-clause-feeds
returns-in_default-clause-feeds c =
    let at = c.loop-used in
    let i = at.invariant.0 in
    let rest = rest_is c.args.chunk.now at.used in
    let first : c.memchr.result ≡ position ends_line (drop at.used c.args.chunk.now) = first_place newline _ _ (rw rest at c.memchr.ensures) in
    let none = none_free (drop at.used c.args.chunk.now) (sym first ∙ c.in_default.is) in
    λ p h.
    let g = at.invariant.1 p (rw c.capped-held.ensures.same (capped_holds h)) in
    rw c.so_far-in_default.ensures (stops_in_line g none i.2 (omega (arith, i.1, i.3, c.if-out-t-le-LONGEST_TEXT.false)) (rw rest at (c.append.ensures.appended _ g.holds)) c.append.ensures.bounded)

pub loop-used-preserved : goal.loop-used-preserved
loop-used-preserved c =
    let at = c.loop-used in
    let i = at.invariant.0 in
    let rest = rest_is c.args.chunk.now at.used in
    let first : c.memchr.result ≡ position ends_line (drop at.used c.args.chunk.now) = first_place newline _ _ (rw rest at c.memchr.ensures) in
    let e = sym first ∙ c.in-Some.is in (
      (search rules, search rules, omega (arith, inside (drop at.used c.args.chunk.now) e, length-drop at.used c.args.chunk.now), omega (arith, c.answer-t.ensures.within, i.1), search rules, λ e. absurd (omega arith)),
      λ p h.
          let g = at.invariant.1 p h in
          line-more g e (omega (arith, i.1, i.3, c.if-out-t-le-LONGEST_TEXT.false)) (rw rest at (c.answer-t.ensures.answered _ (c.append-held.ensures.appended _ g.holds))),
    )

pub returns-clause-feeds : goal.returns-clause-feeds
returns-clause-feeds c =
    let at = c.loop-used in
    let i = at.invariant.0 in
    let none : length c.args.chunk.now ≤ at.used = omega (arith, c.loop-used-test) in
    λ p h. rw c.so_far-2.ensures (stops-at_end (at.invariant.1 p (rw c.capped-held.ensures.same (capped_holds h))) i.3 none i.4)
