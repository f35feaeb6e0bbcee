-- A line that is answered is a turn of a desk's session.
-- Assumes nothing.
use Prim.Native.Nat.{ℕ, ◌≤◌}
use mathlib.Core.List.{List, ◌∷◌}
use mathlib.Core.Path.{◌≡◌, refl}
use native.Mathlib.Omega.{arith}
use lib.ListN.{length, take, replicate, length-replicate}
use Rattle.script.specs.Grammar.{order}
use Rattle.answers.specs.Written.{laid}
use Rattle.answers.proofs.AreaLaws.{written_all}
use Rattle.desk.specs.Line.{Answered, Line}
use Rattle.desk.specs.Theorems.{Session, longest_text}
use Rattle.desk.specs.declared.Desk.{Desk}
use Rattle.desk.specs.declared.Turn.{Turn}
use Rattle.desk.proofs.Texts.{answered_short}
use Rattle.desk.proofs.Theorems.{every_text_fits}

-- an area that takes every text
unfoldable page : List ℕ
page = replicate longest_text 0

page_long : longest_text ≤ length page
unfolding page
page_long = rw length-replicate (omega arith)

abbrev turned : Desk → List ℕ → Turn
turned d text = record { desk = d; length = length text }

module _ {store store' text : List ℕ} {d d' : Desk} (l : List ℕ) (a : Answered store d (order l) d' store' text) where
  on-page : Line store l page d store' (laid text page) (turned d' text)
  on-page = record { text = text; answered = a; written = written_all text page (laid text page) (length text) (omega (arith, page_long, answered_short a)) refl refl }

  read_back : take (length text) (laid text page) ≡ text
  unfolding on-page
  read_back = (every_text_fits store l page store' (laid text page) d (turned d' text) on-page).whole page_long

  pub one_more : {d'' : Desk} {store'' : List ℕ} {lines texts : List (List ℕ)} → Session d' store' lines texts d'' store'' → Session d store (l ∷ lines) (text ∷ texts) d'' store''
  one_more later = rw read_back at (Session.turn (turned d' text) on-page page_long later)
