-- `listing::csengadrul_listing` meets its contract. Assumes nothing.
use mathlib.Core.List.{List, ◌++◌}
use mathlib.Core.Path.{sym, ap, ◌∙◌, subst}
use lib.ListN.{drop}
use lib.Seq.{length-take-le}
use Rattle.rows.specs.declared.Row.{Row}
use Rattle.listing.specs.Listed.{Lists}
use Rattle.listing.proofs.Listed.{room, long, listed, unlisted}
use Rattle.listing.proofs.csengadrul_listing.Goals as goal
use Rattle.listing.proofs.csengadrul_listing.Goals.{in-Some, in_default}

pub slice_bounds-copy_from_slice-end : goal.slice_bounds-copy_from_slice-end
slice_bounds-copy_from_slice-end c = room _ c.in-Some.table c.in-Some.is c.sheet_of-sheet.ensures

pub slice_bounds-copy_from_slice-end-in-Some : goal.slice_bounds-copy_from_slice-end-in-Some
slice_bounds-copy_from_slice-end-in-Some c = sym (length-take-le _ _ (room _ c.in-Some.table c.in-Some.is c.sheet_of-sheet.ensures))

pub copy_from_slice-requires : goal.copy_from_slice-requires
copy_from_slice-requires c =
    length-take-le _ _ (room _ c.in-Some.table c.in-Some.is c.sheet_of-sheet.ensures) ∙ sym (long _ c.in-Some.table c.in-Some.is c.sheet_of-sheet.ensures)

pub returns : goal.returns
returns c =
    let l = c.sheet_of-sheet in
    let ys = c.args.rows.now in
    elim c.match-sheet.branch [
      | in-Some w ↦ subst (λ (later : List Row). Lists ys later c.args.state.now l.result.answer) (sym (w.rows-is ∙ ap (λ (x : List Row). x ++ drop 32 ys) w.copy_from_slice.ensures.after)) (listed ys l.ensures w.in-Some.table w.in-Some.is)
      | in_default w ↦ subst (λ (later : List Row). Lists ys later c.args.state.now l.result.answer) (sym w.rows-is) (unlisted ys l.ensures w.in_default.is)
    ]
