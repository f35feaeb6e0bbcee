-- The end of the input.
-- Assumes nothing.
use Prim.Native.Nat.{ℕ, ◌+◌, ◌≤◌, ◌<◌}
use mathlib.Core.List.{List, [], ◌∷◌, ◌++◌, append-nil}
use mathlib.Core.Path.{◌≡◌, refl, sym, ap, subst}
use native.Mathlib.Omega.{arith}
use lib.ListN.{length, length-append}
use borrow.Author.Tests.{eqb-true}
use lib.Dec.{eqb}
use mathlib.Core.Bool.{true, false}
use Rattle.std.specs.Prelude.{Option, None, Some}
use Rattle.std.specs.Option.{option_eq}
use Rattle.script.specs.Grammar.{order}
use Rattle.answers.proofs.AreaLaws.{written_all}
use Rattle.desk.specs.Line.{Answered}
use Rattle.desk.specs.Theorems.{longest_text}
use Rattle.desk.specs.declared.Desk.{Desk}
use Rattle.desk.specs.declared.Turn.{Turn}
use Rattle.desk.proofs.Texts.{answered_short}
use Rattle.feed.specs.Cut.{newline}
use Rattle.feed.specs.Buffer.{HoldsLine, whole, long}
use Rattle.feed.specs.Takes.{no_room, ends, Finishing}
use Rattle.feed.specs.Promises.{AnsweredBehind}
use Rattle.feed.proofs.Taking.{nothing_left}

-- that no byte is held, by the test for it
pub blank : (held : Option ℕ) → true ≡ option_eq eqb held (Some 0) → held ≡ Some 0
blank None e = (cc)
blank (Some n) e = ap Some (eqb-true n 0 (sym e))

pub some_held : {held : Option ℕ} → false ≡ option_eq eqb held (Some 0) → held ≡ Some 0 → ⊥
some_held e none = let clash : false ≡ true = rw none at e in (cc)

pub no_line : (p : List ℕ) {store out line : List ℕ} {d : Desk} → HoldsLine p line (Some 0) → Finishing p store out d store out (record { desk = d; length = 0 })
no_line [] {out = out} h = record { pending = []; used = 0; answers = []; takes = nothing_left refl; written = written_all [] out out 0 (omega arith) refl refl }
no_line (x ∷ p) (whole short counted content) = absurd (omega arith)
no_line (x ∷ p) (long over far) = absurd (omega arith)

pub no_room-left : {p store out : List ℕ} {d : Desk} → length out ≤ longest_text → Finishing p store out d store out (record { desk = d; length = 0 })
no_room-left {p} {out = out} none = record { pending = p; used = 0; answers = []; takes = no_room none; written = written_all [] out out 0 (omega arith) refl refl }

pub last_line : (p : List ℕ) {store out store' out' line : List ℕ} {d : Desk} {held : Option ℕ} {r : Turn} → (held ≡ Some 0 → ⊥) → longest_text < length out → HoldsLine p line held → AnsweredBehind p store out (record { desk = d; length = 0 }) store' out' r → Finishing p store out d store' out' r
last_line [] some room (whole short counted content) a = absurd (some (ap Some counted))
last_line [] some room (long over far) a = absurd (omega arith)
last_line (x ∷ p) {store} {out} {store'} {out'} {d = d} {r = r} some room h a =
    let told : List ℕ = a.text ++ (newline ∷ []) in
    let size : length told ≡ length a.text + 1 = length-append a.text (newline ∷ []) in
    let short : length a.text ≤ longest_text = answered_short a.answered in
    let answered = subst (λ (l : List ℕ). Answered store d (order l) r.desk store' a.text) (sym (append-nil (x ∷ p))) a.answered in
    record {
      pending = [];
      used = 1;
      answers = told;
      takes = ends [] [] a.text room (λ i few. absurd (omega arith)) refl answered (nothing_left refl);
      written = written_all told out out' r.length (omega arith) a.area (omega (arith, a.counted));
    }
