-- A chunk under way: what the loop of `feed` keeps from line to line, where it stops, and how far it comes.
-- Assumes nothing.
use Prim.Native.Nat.{ℕ, zero, suc, ◌+◌, ◌-◌, ◌≤◌, ◌<◌}
use mathlib.Core.List.{List, [], ◌∷◌, ◌++◌, append_assoc, append-nil}
use mathlib.Core.Logic.{◌⊎◌, inl, inr}
use mathlib.Core.Path.{◌≡◌, refl, sym, ap, ◌∙◌, subst}
use native.Mathlib.Omega.{arith}
use lib.ListN.{length, take, drop, length-append, length-drop, drop_of_length-le}
use lib.Seq.{drop-drop, length-take-le}
use Rattle.std.specs.Prelude.{Option, Some}
use Rattle.std.specs.List.{position}
use Rattle.answers.specs.Written.{laid}
use Rattle.answers.proofs.AreaLaws.{written_all}
use Rattle.desk.specs.Theorems.{longest_text}
use Rattle.desk.specs.declared.Desk.{Desk}
use Rattle.desk.specs.declared.Turn.{Turn}
use Rattle.feed.specs.Cut.{newline, NoNewline}
use Rattle.feed.specs.Buffer.{Told, HoldsLine}
use Rattle.feed.specs.Takes.{Takes, no_room, part, ends, Feeding, GoesOn}
use Rattle.feed.specs.Promises.{AnsweredBehind, fed_so_far}
use Rattle.feed.proofs.Cutting.{ends_line, inside, free, cut}
use Rattle.feed.proofs.BufferLaws.{empty}
use Rattle.feed.proofs.Laying.{laid_more}
use Rattle.feed.proofs.Taking.{nothing_left}

takes_at : {d d' : Desk} {store p chunk store' p' w₁ w₂ : List ℕ} {room₁ room₂ used₁ used₂ : ℕ} → room₁ ≡ room₂ → used₁ ≡ used₂ → w₁ ≡ w₂ → Takes d store p chunk room₁ d' store' p' used₁ w₁ → Takes d store p chunk room₂ d' store' p' used₂ w₂
takes_at {d} {d'} {store} {p} {chunk} {store'} {p'} room used w t = subst (λ (x : ℕ × ℕ × List ℕ). Takes d store p chunk x.0 d' store' p' x.1 x.2) (λ i. (room i, used i, w i)) t

-- from d₀ and store₀ with p pending, t is what is answered of a chunk, whose first bytes are used: whatever the rest of it leads to from here, the whole of it leads to
pub record Going (p chunk area : List ℕ) (d₀ : Desk) (store₀ : List ℕ) (t : Turn) (held : Option ℕ) (used : ℕ) (store line out : List ℕ) : Type 0 where
  pub now : List ℕ
  pub answers : List ℕ
  pub holds : HoldsLine now line held
  pub content : out ≡ laid answers area
  pub counted : t.length ≡ length answers
  pub onward : {d' : Desk} {store' p' w : List ℕ} {more : ℕ} → Takes t.desk store now (drop used chunk) (length area - t.length) d' store' p' more w → Takes d₀ store₀ p chunk (length area) d' store' p' (used + more) (answers ++ w)

pub begun : {p chunk area store line : List ℕ} {d : Desk} {held : Option ℕ} → HoldsLine p line held → Going p chunk area d store (record { desk = d; length = 0 }) held 0 store line area
begun {p} h = record { now = p; answers = []; holds = h; content = refl; counted = refl; onward = λ t. takes_at (omega arith) (omega arith) refl t }

module _ {p chunk area : List ℕ} {d₀ : Desk} {store₀ : List ℕ} {t : Turn} {held : Option ℕ} {used : ℕ} {store line out : List ℕ} (g : Going p chunk area d₀ store₀ t held used store line out) where
  -- a line ends after n bytes of the rest and is answered
  pub line-more : {n : ℕ} {store' line' out' : List ℕ} {t' : Turn} (e : position ends_line (drop used chunk) ≡ Some n) → t.length + longest_text < length area → AnsweredBehind (g.now ++ take n (drop used chunk)) store out t store' out' t'
      → Going p chunk area d₀ store₀ t' (Some 0) (used + (n + 1)) store' line' out'
  line-more {n} {line' = line'} {t' = t'} e room a =
      let text : List ℕ = a.text in
      let told : List ℕ = text ++ (newline ∷ []) in
      let rest : List ℕ = drop used chunk in
      let size : length told ≡ length text + 1 = length-append text (newline ∷ []) in
      let taken : length (take n rest) ≡ n = length-take-le n rest (omega (arith, inside rest e)) in
      record {
        now = [];
        answers = g.answers ++ told;
        holds = empty line';
        content = a.area ∙ rw (g.content, g.counted) (laid_more g.answers told area);
        counted = rw length-append (omega (arith, a.counted, g.counted));
        onward = λ {w = w} {more = more} later.
            takes_at refl (omega arith) (sym (append_assoc g.answers told w ∙ ap (λ (l : List ℕ). g.answers ++ l) (append_assoc text (newline ∷ []) w)))
            (g.onward (ends {used = more} (take n rest) (drop (n + 1) rest) text (omega arith) (free rest e) (cut rest e) a.answered (rw drop-drop (takes_at (omega (arith, a.counted)) refl refl later))));
      }

  -- where it stops, with so much used and pending
  stopped : {line' pending : List ℕ} {held' : Option ℕ} {more : ℕ} → t.length ≤ length area → Takes t.desk store g.now (drop used chunk) (length area - t.length) t.desk store pending more [] → HoldsLine pending line' held' → Told held'
      → Feeding p store₀ chunk area d₀ store line' out (fed_so_far t held' (used + more))
  stopped {pending = pending} fits last h small = record {
    pending = pending;
    answers = g.answers;
    takes = takes_at refl refl (append-nil g.answers) (g.onward last);
    held = h;
    small = small;
    written = written_all g.answers area out t.length (omega (arith, g.counted)) g.content g.counted;
  }

  as_used : {line' : List ℕ} {held' : Option ℕ} → Feeding p store₀ chunk area d₀ store line' out (fed_so_far t held' (used + 0)) → Feeding p store₀ chunk area d₀ store line' out (fed_so_far t held' used)
  as_used {line'} {held'} f =
      let none : used + 0 ≡ used = omega arith in
      subst (λ (n : ℕ). Feeding p store₀ chunk area d₀ store line' out (fed_so_far t held' n)) none f

  -- there is no more room
  pub stops_full : t.length ≤ length area → length area - t.length ≤ longest_text → Told held → Feeding p store₀ chunk area d₀ store line out (fed_so_far t held used)
  stops_full fits none small = as_used (stopped fits (no_room none) g.holds small)

  -- there is no more chunk
  pub stops-at_end : t.length ≤ length area → length chunk ≤ used → Told held → Feeding p store₀ chunk area d₀ store line out (fed_so_far t held used)
  stops-at_end fits none small = as_used (stopped fits (nothing_left (drop_of_length-le chunk none)) g.holds small)

  -- no more line ends
  pub stops_in_line : {held' : Option ℕ} {line' : List ℕ} → NoNewline (drop used chunk) → used ≤ length chunk → t.length + longest_text < length area → HoldsLine (g.now ++ drop used chunk) line' held' → Told held'
      → Feeding p store₀ chunk area d₀ store line' out (fed_so_far t held' (length chunk))
  stops_in_line {held'} {line'} none within room h small =
      let size : used + length (drop used chunk) ≡ length chunk = rw length-drop (omega arith) in
      subst (λ (x : ℕ). Feeding p store₀ chunk area d₀ store line' out (fed_so_far t held' x)) size (stopped (omega arith) (part (omega arith) none) h small)

-- ---- how far it comes

some_used : (used : ℕ) {wrote : ℕ} → (used ≡ 0 → wrote ≡ 0) → 0 < wrote → 0 < used
some_used zero first h = absurd (omega (arith, first refl))
some_used (suc n) first h = omega arith

pub goes_on : {chunk out : List ℕ} (t : Turn) (held : Option ℕ) (used : ℕ) → used ≤ length chunk → t.length ≤ length out → (used ≡ 0 → t.length ≡ 0) → (length out - t.length ≤ longest_text) ⊎ (length chunk ≤ used) → GoesOn chunk out (fed_so_far t held used)
goes_on t held used within fits first (inl none) = record { used = within; wrote = fits; some = λ room some. some_used used first (omega arith) }
goes_on t held used within fits first (inr all) = record { used = within; wrote = fits; some = λ room some. omega arith }
