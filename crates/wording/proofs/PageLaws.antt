-- Laws of a page: how long its lines can be, so that there is room for each, and that said piece by piece they are whole.
-- Assumes nothing.
use Prim.Native.Nat.{ℕ, zero, suc, ◌+◌, ◌-◌, ◌*◌, ◌^◌, ◌≤◌, ◌<◌}
use mathlib.Core.Bool.{Bool, true, false, not}
use mathlib.Core.List.{List, [], ◌∷◌, ◌++◌, append_assoc, append-nil}
use mathlib.Core.Path.{◌≡◌, refl, sym, ap, ◌∙◌}
use native.Mathlib.Omega.{arith}
use native.Mathlib.Numerals.{add-one}
use lib.Dec.{eqb}
use lib.ListN.{length, length-append, replicate, length-replicate, take}
use lib.Seq.{take-length}
use Rattle.std.specs.Prelude.{cond, if◌then◌else◌}
use Rattle.std.specs.List.{count_by}
use Rattle.std.proofs.lemmas.List.Sums.{sum_by_more}
use Rattle.lists.specs.Lists.{total}
use Rattle.lists.proofs.Laws.{total-same}
use Rattle.plain.specs.Names as Names
use Rattle.plain.specs.Sizes.{processes}
use Rattle.answers.specs.Answer.{decimal}
use Rattle.answers.specs.Ascii.{ascii, space}
use Rattle.answers.proofs.TextLaws.{byte_short, decimal_short, decimal_within}
use Rattle.rows.specs.Row.{bare}
use Rattle.rows.specs.declared.Row.{Row}
use Rattle.wording.specs.Page.{newline, cell, order, queued, stands, bytes, in_hand, header, row_line, is_used, line_of, lines, unused_in, unused_line, page, page_room, row_at}
use Rattle.wording.specs.Promises.{room, cut, more}
use Rattle.wording.proofs.PhraseLaws.{cut_cut, cut_fits, more-more, more_fits}

-- ---- a text in a column

one-space-more : (k : ℕ) → replicate k space ++ (space ∷ []) ≡ replicate (suc k) space
one-space-more zero = refl
one-space-more (suc k) = ap (λ (l : List ℕ). space ∷ l) (one-space-more k)

-- a text, and behind it as many spaces as i is past its end
pub more-space : (s text : List ℕ) (i : ℕ) → length text ≤ i → more (more s (text ++ replicate (i - length text) space)) (space ∷ []) ≡ more s (text ++ replicate ((i + 1) - length text) space)
more-space s text i h =
    let next : (i + 1) - length text ≡ suc (i - length text) = omega arith in
    rw (next, more-more, append_assoc) (ap (λ (l : List ℕ). more s (text ++ l)) (one-space-more (i - length text)))

cell-length : (width : ℕ) (text : List ℕ) → length text ≤ width → length (cell width text) ≡ width
unfolding cell
cell-length width text h = rw (length-append text (replicate (width - length text) space), length-replicate (width - length text) space) (omega arith)

-- a text that is said alone is whole
pub alone : (text : List ℕ) → length text ≤ room → more [] text ≡ text
alone text h = more_fits [] text h

-- ---- the words of a row

-- its numbers are bytes, and its length has 16 bits
pub record Sized (r : Row) : Type 0 where
  pub which : r.which < 2 ^ 8
  pub position : r.position < 2 ^ 8
  pub class : r.class < 2 ^ 8
  pub ticks : r.ticks < 2 ^ 8
  pub length : r.length < 2 ^ 16

order_short : (n : ℕ) → n < 2 ^ 8 → length (order n) ≤ 9
order_short n h = go (eqb n 0)
  where
    go : (none : Bool) → length (if none then ascii "first" else decimal n ++ ascii " ahead") ≤ 9
    go true = omega arith
    go false = simp length-append (omega (arith, byte_short n h))

queued_short : (place : List ℕ) (x n : ℕ) → x < 2 ^ 8 → n < 2 ^ 8 → length (queued place x n) ≤ length place + 14
queued_short place x n h k = simp length-append (omega (arith, byte_short x h, order_short n k))

pub stands_short : (r : Row) → Sized r → length (stands r) ≤ 29
stands_short r s = go (eqb r.place 1) (eqb r.place 2) (eqb r.place 3) (eqb r.place 4)
  where
    in_queue : (place : List ℕ) → length place ≤ 15 → length (queued place r.which r.position) ≤ 29
    in_queue place h = omega (arith, queued_short place r.which r.position s.which s.position)

    go : (a b c d : Bool) → length (if a then ascii "runs"
        else (if b then queued (ascii "ready in class ") r.which r.position
        else (if c then queued (ascii "at mailbox ") r.which r.position
        else (if d then queued (ascii "at semaphore ") r.which r.position
        else ascii "stands by")))) ≤ 29
    go true b c d = omega arith
    go false true c d = in_queue (ascii "ready in class ") (omega arith)
    go false false true d = in_queue (ascii "at mailbox ") (omega arith)
    go false false false true = in_queue (ascii "at semaphore ") (omega arith)
    go false false false false = omega arith

bytes_short : (n : ℕ) → n < 2 ^ 16 → length (bytes n) ≤ 16
bytes_short n h = go (eqb n 1)
  where
    go : (one : Bool) → length (if one then ascii "1 byte" else decimal n ++ ascii " bytes") ≤ 16
    go true = omega arith
    go false = simp length-append (omega (arith, decimal_short n (omega arith)))

hand_short : (r : Row) → Sized r → length (in_hand r) ≤ 29
hand_short r s = go (eqb r.full 0)
  where
    go : (empty : Bool) → length (if empty then ascii "nothing" else ascii "a message of " ++ bytes r.length) ≤ 29
    go true = omega arith
    go false = omega (arith, bytes_short r.length s.length)

-- ---- the digits of a name

-- a number of 16 bits has at most six
name_short : (n : ℕ) → n < 2 ^ 16 → length (decimal n) ≤ 6
name_short n h = decimal_within 6 n (omega arith) (omega arith) (omega arith)

pub name_small : (births : ℕ → ℕ) (p : ℕ) → p < 2 ^ 8 → births p < 2 ^ 8 → Names.name births p < 2 ^ 16
unfolding Names.name
name_small births p h k = omega arith

-- ---- the line of a row

module _ (name : ℕ → ℕ) (p : ℕ) (r : Row) (small : p < 2 ^ 8) (named : name p < 2 ^ 16) (s : Sized r) where
  pub row-line_short : length (row_line name p r) ≤ room
  unfolding row_line
  row-line_short = simp length-append (omega (
    arith,
    cell-length 9 (decimal p) (omega (arith, byte_short p small)),
    cell-length 7 (decimal (name p)) (omega (arith, name_short (name p) named)),
    cell-length 30 (stands r) (omega (arith, stands_short r s)),
    cell-length 7 (decimal r.class) (omega (arith, byte_short r.class s.class)),
    cell-length 12 (decimal r.ticks) (omega (arith, byte_short r.ticks s.ticks)),
    hand_short r s,
  ))

  pub row-line-whole : more (more (more (more (more (more (more [] (cell 9 (decimal p))) (cell 7 (decimal (name p)))) (cell 30 (stands r))) (cell 7 (decimal r.class))) (cell 12 (decimal r.ticks))) (in_hand r)) (newline ∷ []) ≡ row_line name p r
  unfolding row_line
  row-line-whole = simp more-more (simp append_assoc (simp append_assoc at (alone (row_line name p r) row-line_short)))

-- ---- the last line

pub many_unused : (n : ℕ) → n < 2 ^ 8 → more (more [] (decimal n)) (ascii " processes are unused." ++ (newline ∷ [])) ≡ (decimal n ++ ascii " processes are unused.") ++ (newline ∷ [])
many_unused n h =
    let last : List ℕ = ascii " processes are unused." ++ (newline ∷ []) in
    let short : length (decimal n ++ last) ≤ room = simp length-append (omega (arith, byte_short n h)) in
    more-more [] (decimal n) last ∙ alone (decimal n ++ last) short ∙ sym (append_assoc (decimal n) (ascii " processes are unused.") (newline ∷ []))

-- ---- who has a line, and who is counted

module _ (name : ℕ → ℕ) (p : ℕ) (r : Row) where
  pub line-used : is_used r ≡ true → line_of name p r ≡ row_line name p r
  unfolding line_of
  line-used e = rw e

  pub line-unused : is_used r ≡ false → line_of name p r ≡ []
  unfolding line_of
  line-unused e = rw e

pub lines_next : (name : ℕ → ℕ) (row : ℕ → Row) (i : ℕ) → lines (i + 1) name row ≡ lines i name row ++ line_of name i (row i)
unfolding lines
lines_next name row i = rw add-one

-- ---- a page, said line by line

module _ (name : ℕ → ℕ) (row : ℕ → Row) where
  -- the header and the lines of the first i processes
  abbrev upto : ℕ → List ℕ
  upto i = header ++ lines i name row

  -- so far the page is these, and each line is short
  abbrev pub Said : ℕ → List ℕ → Type 0
  Said i p = (p ≡ cut page_room [] (upto i)) × (length (upto i) ≤ (i + 1) * room)

  pub header_said : {p l : List ℕ} → p ≡ cut page_room [] l → l ≡ header → length l ≤ room → Said 0 p
  unfolding lines
  header_said {p} {l} e d h =
      let all : l ≡ upto 0 = d ∙ sym (append-nil header) in
      let long : length (upto 0) ≡ length l = ap (λ (x : List ℕ). length x) (sym all) in
      (e ∙ ap (cut page_room []) all, omega (arith, long, h))

  pub line_said : (i : ℕ) {p next l : List ℕ} → Said i p → next ≡ cut page_room p l → l ≡ line_of name i (row i) → length l ≤ room → Said (i + 1) next
  line_said i {p} {next} {l} s e d h =
      let line : upto i ++ line_of name i (row i) ≡ upto (i + 1) = append_assoc header (lines i name row) (line_of name i (row i)) ∙ ap (λ (x : List ℕ). header ++ x) (sym (lines_next name row i)) in
      let all : upto i ++ l ≡ upto (i + 1) = ap (λ (x : List ℕ). upto i ++ x) d ∙ line in
      let long : length (upto (i + 1)) ≡ length (upto i) + length l = ap (λ (x : List ℕ). length x) (sym all) ∙ length-append (upto i) l in
      (e ∙ ap (λ (x : List ℕ). cut page_room x l) s.0 ∙ cut_cut page_room [] (upto i) l ∙ ap (cut page_room []) all, omega (arith, long, s.1, h))

  pub page_said : {p whole l : List ℕ} → Said processes p → whole ≡ cut page_room p l → l ≡ unused_line (unused_in processes row) → length l ≤ room → whole ≡ page name row
  unfolding page
  page_said {p} {whole} {l} s e d h =
      let all : upto processes ++ l ≡ page name row = ap (λ (x : List ℕ). upto processes ++ x) d in
      let short : length (upto processes ++ l) ≤ page_room = rw (length-append (upto processes) l) (omega (arith, s.1, h)) in
      e ∙ ap (λ (x : List ℕ). cut page_room x l) s.0 ∙ cut_cut page_room [] (upto processes) l ∙ cut_fits page_room [] (upto processes ++ l) short ∙ all

-- the rows of a table that are not in use are as many as its numbers of those unused say
module _ (rows : List Row) where
  abbrev unused : Row → Bool
  unused r = not (is_used r)

  counted_first : (i : ℕ) → i ≤ length rows → count_by unused (take i rows) ≡ unused_in i (row_at rows)
  unfolding total
  counted_first zero h = refl
  counted_first (suc i) h =
      let next : suc i ≡ i + 1 = omega arith in
      ap (λ (n : ℕ). count_by unused (take n rows)) next ∙ sum_by_more (λ (r : Row). cond (unused r) 1 0) rows i (bare 0) (omega arith) ∙ omega (arith, counted_first i (omega arith), one (is_used (row_at rows i)))
    where
      one : (used : Bool) → ◌≡◌ {A = ℕ} (cond (not used) 1 0) (if used then 0 else 1)
      one true = refl
      one false = refl

  pub counted : count_by unused rows ≡ unused_in (length rows) (row_at rows)
  counted = ap (count_by unused) (sym (take-length rows)) ∙ counted_first (length rows) (omega arith)

-- ---- a page is what its rows are

lines_same : (name : ℕ → ℕ) (f g : ℕ → Row) (n : ℕ) → ((i : ℕ) → i < n → f i ≡ g i) → lines n name f ≡ lines n name g
unfolding lines
lines_same name f g zero h = refl
lines_same name f g (suc n) h = rw (lines_same name f g n (λ i k. h i (omega arith)), h n (omega arith))

pub page-same : (name : ℕ → ℕ) (f g : ℕ → Row) → ((i : ℕ) → i < processes → f i ≡ g i) → page name f ≡ page name g
unfolding page
page-same name f g h =
    let counted : unused_in processes f ≡ unused_in processes g = total-same processes _ _ (λ i low. ap (λ (r : Row). if is_used r then 0 else 1) (h i low)) in
    rw (lines_same name f g processes h, counted)
