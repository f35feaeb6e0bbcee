-- A text and its newline, laid behind what is written.
-- Assumes nothing.
use Prim.Native.Nat.{ℕ, suc, ◌+◌, ◌-◌, ◌≤◌, ◌<◌}
use mathlib.Core.List.{List, [], ◌∷◌, ◌++◌, append_assoc, append-nil}
use mathlib.Core.Path.{◌≡◌, sym, ap, ◌∙◌}
use native.Mathlib.Omega.{arith}
use lib.ListN.{length, take, drop, set, get_or, length-append, length-drop, drop_of_length-le}
use lib.Seq.{take_all, take-append_seam, drop-append_seam, drop-drop, drop-cons, set_at, length-take-le}
use borrow.Author.Tests.{le-leb}
use borrow.Rule.Slice.PartMut.{mid_of, put_mid}
use Rattle.answers.specs.Written.{laid}
use Rattle.answers.proofs.AreaLaws.{written_fits}
use Rattle.desk.specs.Line.{Line}
use Rattle.desk.specs.Theorems.{longest_text}
use Rattle.desk.specs.declared.Turn.{Turn}
use Rattle.desk.proofs.Texts.{answered_short}
use Rattle.feed.specs.Cut.{newline}
use Rattle.feed.specs.Promises.{AnsweredBehind}

put_newline : (front text area : List ℕ) (n : ℕ) → length text < length area → n ≡ length front + length text → set (front ++ laid text area) n newline ≡ front ++ laid (text ++ (newline ∷ [])) area
put_newline front text area n room counted =
    let split : drop (length text) area ≡ get_or area (length text) 0 ∷ drop (suc (length text)) area = drop-cons area (length text) 0 room in
    let size : length (text ++ (newline ∷ [])) ≡ suc (length text) = length-append text (newline ∷ []) ∙ omega arith in
    let here : length (front ++ text) ≡ n = length-append front text ∙ sym counted in
    rw (split, size, ← append_assoc front text (get_or area (length text) 0 ∷ drop (suc (length text)) area), set_at (front ++ text) (get_or area (length text) 0) (drop (suc (length text)) area) newline n here) (simp append_assoc)

pub laid_more : (a b area : List ℕ) → take (length a) (laid a area) ++ laid b (drop (length a) (laid a area)) ≡ laid (a ++ b) area
laid_more a b area =
    rw (take-append_seam a (drop (length a) area), drop-append_seam a (drop (length a) area), drop-drop (length b) (length a) area, length-append a b) (sym (append_assoc a b (drop (length a + length b) area)))

-- the text was put into the part from what t has written on
pub behind : {l store store' out new : List ℕ} {t told : Turn} (m : ℕ) → m ≡ length out - t.length → t.length + longest_text < length out → Line store l (mid_of t.length m out) t.desk store' new told
    → AnsweredBehind l store out t store' (set (put_mid t.length m out new) (t.length + told.length) newline) (record { desk = told.desk; length = t.length + told.length + 1 })
behind {out = out} {new} {t} {told} m size room line =
    let at : ℕ = t.length in
    let area : List ℕ = drop at out in
    let long : length area ≡ length out - at = length-drop at out in
    let short : length line.text ≤ longest_text = answered_short line.answered in
    let fits : length line.text ≤ length (mid_of at m out) = rw (take_all m area (omega arith)) (omega arith) in
    let content : new ≡ laid line.text area = rw (take_all m area (omega arith)) at (written_fits line.text (mid_of at m out) new told.length line.written fits) in
    let counted : told.length ≡ length line.text = rw (le-leb (length line.text) (length (mid_of at m out)) fits) at line.written.counted in
    let front : length (take at out) ≡ at = length-take-le at out (omega arith) in
    let gone : drop m area ≡ [] = drop_of_length-le area {i = m} (omega arith) in
    let whole : put_mid at m out new ≡ take at out ++ laid line.text area = rw (gone, append-nil new, content) in
    record {
      text = line.text;
      answered = line.answered;
      counted = omega arith;
      area = ap (λ (l : List ℕ). set l (at + told.length) newline) whole ∙ put_newline (take at out) line.text area (at + told.length) (omega arith) (omega arith);
    }
