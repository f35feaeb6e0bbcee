-- The rows of a state as a page for people: a header, a line for each process in use, and how many are not.
-- Total: for any numbers in a row. Assumes nothing.
use Rattle.std.specs.Prelude.{ℕ, zero, suc, ◌+◌, ◌-◌, ◌*◌, Bool, ◌&&◌, List, [], ◌∷◌, ◌++◌, eqb, ltb, leb, length, get_or, replicate, if◌then◌else◌}
use Rattle.lists.specs.Lists.{total}
use Rattle.plain.specs.Sizes.{processes}
use Rattle.answers.specs.Answer.{decimal}
use Rattle.answers.specs.Ascii.{ascii, space}
use Rattle.rows.specs.Row.{bare}
use Rattle.rows.specs.declared.Row.{Row}
use Rattle.wording.specs.Promises.{room}

abbrev pub newline : ℕ
newline = 10

-- ---- the columns

-- a text, and spaces up to the column's width
unfoldable pub cell : ℕ → List ℕ → List ℕ
cell width text = text ++ replicate (width - length text) space

-- process, its name, where it stands, class, ticks left, what is in its hand
abbrev pub columns : List ℕ → List ℕ → List ℕ → List ℕ → List ℕ → List ℕ → List ℕ
columns process name stands class ticks hand = cell 9 process ++ cell 7 name ++ cell 30 stands ++ cell 7 class ++ cell 12 ticks ++ hand ++ (newline ∷ [])

unfoldable pub header : List ℕ
header = columns (ascii "Process") (ascii "Name") (ascii "Stands") (ascii "Class") (ascii "Ticks left") (ascii "In hand")

-- ---- a row in words

abbrev pub order : ℕ → List ℕ
order n = if eqb n 0 then ascii "first" else decimal n ++ ascii " ahead"

abbrev pub queued : List ℕ → ℕ → ℕ → List ℕ
queued place x n = place ++ decimal x ++ ascii ", " ++ order n

abbrev pub stands : Row → List ℕ
stands r =
    if eqb r.place 1 then ascii "runs"
    else (if eqb r.place 2 then queued (ascii "ready in class ") r.which r.position
    else (if eqb r.place 3 then queued (ascii "at mailbox ") r.which r.position
    else (if eqb r.place 4 then queued (ascii "at semaphore ") r.which r.position
    else ascii "stands by")))

abbrev pub bytes : ℕ → List ℕ
bytes n = if eqb n 1 then ascii "1 byte" else decimal n ++ ascii " bytes"

abbrev pub in_hand : Row → List ℕ
in_hand r = if eqb r.full 0 then ascii "nothing" else ascii "a message of " ++ bytes r.length

-- the line of process p, whose name is name p
unfoldable pub row_line : (ℕ → ℕ) → ℕ → Row → List ℕ
row_line name p r = columns (decimal p) (decimal (name p)) (stands r) (decimal r.class) (decimal r.ticks) (in_hand r)

-- ---- the page

-- its place is one of 1 to 5
abbrev pub is_used : Row → Bool
is_used r = ltb 0 r.place && leb r.place 5

-- who is unused has no line
unfoldable pub line_of : (ℕ → ℕ) → ℕ → Row → List ℕ
line_of name p r = if is_used r then row_line name p r else []

-- the lines of the first n processes
unfoldable pub lines : ℕ → (ℕ → ℕ) → (ℕ → Row) → List ℕ
lines zero name row = []
lines (suc n) name row = lines n name row ++ line_of name n (row n)

-- how many of the first n processes are unused
abbrev pub unused_in : ℕ → (ℕ → Row) → ℕ
unused_in n row = total n (λ i. if is_used (row i) then 0 else 1)

unfoldable pub unused_line : ℕ → List ℕ
unused_line n =
    (if eqb n 0 then ascii "No process is unused."
    else (if eqb n 1 then ascii "1 process is unused."
    else decimal n ++ ascii " processes are unused.")) ++ (newline ∷ [])

-- the page of the names and rows of all processes
unfoldable pub page : (ℕ → ℕ) → (ℕ → Row) → List ℕ
page name row = header ++ lines processes name row ++ unused_line (unused_in processes row)

-- an area of so many bytes takes every page: a line for each process, the header and the last line
abbrev pub page_room : ℕ
page_room = (processes + 2) * room

-- row i of a table, zeros behind its end
abbrev pub row_at : List Row → ℕ → Row
row_at rows i = get_or rows i (bare 0)
