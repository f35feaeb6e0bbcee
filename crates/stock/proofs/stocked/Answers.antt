-- `stock::stocked` meets its contract. Assumes nothing.
use Prim.Native.Nat.{ℕ}
use Rattle.boxes.specs.Box.{num, tables_of}
use Rattle.habits.specs.Tables.{capacity_in}
use Rattle.mail.specs.Carries.{numbers}
use Rattle.std.specs.Prelude.{Some}
use Rattle.stock.proofs.Accepted.{Typed}
use Rattle.stock.proofs.Answers.{no_rings, too_many, no_hands, by_messages}
use Rattle.stock.proofs.stocked.Goals as goal
use Rattle.stock.specs.Tests.{Queued, Few}
use borrow.Author.Rules.{rules}
use lib.ListN.{length, length-map}
use mathlib.Core.List.{List, map}
use mathlib.Core.Path.{◌≡◌, sym, ◌∙◌}

unmapped : {A B : Type 0} (f : A → B) (l : List A) (n : ℕ) → length (map f l) ≡ n → length l ≡ n
unmapped f l n p = sym (length-map l f) ∙ p

pub returns-in_default : goal.returns-in_default
unfolding numbers tables_of
returns-in_default c =
    let a = c.args in
    no_rings (numbers a.k) (capacity_in a.capacity) (rw (c.bytes_of-next.ensures, c.bytes_of-prev.ensures) at c.in_default.ensures)

pub returns-then-not-few : goal.returns-then-not-few
unfolding numbers tables_of
returns-then-not-few c =
    let a = c.args in
    too_many (numbers a.k) (capacity_in a.capacity) (rw c.bytes_of-next.ensures at (c.if-not-few.ensures (map num a.k.boxes.prev)))

pub returns-in_default-handed : goal.returns-in_default-handed
unfolding numbers tables_of
returns-in_default-handed c =
    let a = c.args in
    let rings : Queued (numbers a.k).tables (Some c.in-Some.in_boxes) = rw (c.bytes_of-next.ensures, c.bytes_of-prev.ensures) at c.in-Some.ensures in
    no_hands (numbers a.k) (capacity_in a.capacity) c.in-Some.in_boxes rings c.in_default-handed.ensures

pub returns : goal.returns
unfolding numbers tables_of
returns c =
    let a = c.args in
    let rings : Queued (numbers a.k).tables (Some c.in-Some.in_boxes) = rw (c.bytes_of-next.ensures, c.bytes_of-prev.ensures) at c.in-Some.ensures in
    let none_full : Few (numbers a.k).tables (capacity_in a.capacity) = rw c.bytes_of-next.ensures at (c.if-not-few.ensures (map num a.k.boxes.prev)) in
    let typed : Typed (numbers a.k) = record {
      hands_long = length-map a.k.hand num ∙ search (rules, unmapped);
      lengths_long = search (rules, unmapped);
      chain_long = length-map a.k.chain num ∙ search (rules, unmapped);
      full_fits = search rules;
      free_fits = search rules;
    } in
    by_messages (numbers a.k) (capacity_in a.capacity) c.in-Some.in_boxes rings typed none_full c.in-Some-handed.at c.in-Some-handed.ensures c.messages_fit.result c.messages_fit.ensures
