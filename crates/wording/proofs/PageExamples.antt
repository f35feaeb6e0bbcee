-- Every kind of row in words, and a page, computed.
-- Assumes nothing.
use Prim.Native.Nat.{ℕ}
use Prim.Native.String.{String}
use mathlib.Core.Path.{◌≡◌, refl}
use mathlib.Core.List.{List, [], ◌∷◌, ◌++◌, map}
use lib.Dec.{eqb}
use Rattle.std.specs.Prelude.{if◌then◌else◌}
use Rattle.lists.specs.Lists.{total}
use Rattle.plain.specs.Names.{name}
use Rattle.answers.specs.Answer.{digits_of, decimal}
use Rattle.answers.specs.Ascii.{ascii}
use Rattle.rows.specs.declared.Row.{Row}
use Rattle.wording.specs.Page.{newline, cell, header, row_line, line_of, lines, unused_line, page}

row : ℕ → ℕ → ℕ → ℕ → ℕ → ℕ → ℕ → Row
row place which position class ticks full length = record { place = place; which = which; position = position; class = class; ticks = ticks; full = full; length = length }

-- a row, and its line as that of process 12, born once
rows : List (Row × String)
rows =
    (row 1 1 0 1 2 1 3, "12       268    runs                          1      2           a message of 3 bytes")
    ∷ (row 2 4 0 4 3 0 0, "12       268    ready in class 4, first       4      3           nothing")
    ∷ (row 2 1 30 1 1 1 1, "12       268    ready in class 1, 30 ahead    1      1           a message of 1 byte")
    ∷ (row 3 15 2 0 3 0 0, "12       268    at mailbox 15, 2 ahead        0      3           nothing")
    ∷ (row 4 0 1 2 3 1 0, "12       268    at semaphore 0, 1 ahead       2      3           a message of 0 bytes")
    ∷ (row 5 0 0 0 0 0 0, "12       268    stands by                     0      0           nothing")
    ∷ (row 2 255 255 255 255 255 512, "12       268    ready in class 255, 255 ahead 255    255         a message of 512 bytes")
    ∷ []

lines_of_rows : map (λ (x : Row × String). row_line (name (λ i. 1)) 12 x.0) rows ≡ map (λ (x : Row × String). ascii x.1 ++ (newline ∷ [])) rows
unfolding row rows row_line name cell digits_of decimal
lines_of_rows = refl

-- process 0 runs, 2 was born for the 255th time and stands by, 3 has a place that there is not, and nobody else is in use
few : ℕ → Row
few i = if eqb i 0 then row 1 0 0 0 0 0 0 else (if eqb i 2 then row 5 0 0 0 0 0 0 else (if eqb i 3 then row 6 0 0 0 0 0 0 else row 0 0 0 0 0 0 0))

born : ℕ → ℕ
born i = if eqb i 2 then 255 else 0

page_of_few : page (name born) few ≡
    ascii "Process  Name   Stands                        Class  Ticks left  In hand" ++ (newline ∷ [])
    ++ ascii "0        0      runs                          0      0           nothing" ++ (newline ∷ [])
    ++ ascii "2        65282  stands by                     0      0           nothing" ++ (newline ∷ [])
    ++ ascii "30 processes are unused." ++ (newline ∷ [])
unfolding row few born name page header row_line line_of lines unused_line total cell digits_of decimal
page_of_few = refl
