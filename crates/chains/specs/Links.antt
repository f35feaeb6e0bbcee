-- What is read along the links of buffers, and what their table and the free buffers become as a message takes buffers and gives them back.
-- Total: a number past the last buffer has no link and no bit. Assumes nothing.
use Rattle.std.specs.Prelude.{ℕ, zero, suc, Bool, true, false, List, [], ◌∷◌, get_or, set, take, eqb, ltb, if◌then◌else◌}
use Rattle.lists.specs.Lists.{occurs, those}
use Rattle.bits.specs.Word.{width}
use Rattle.rings.specs.Moves as Rings
use Rattle.plain.specs.Pages.{needed}
use Rattle.sizes.specs.declared.Bid.{Bid}
use Rattle.chains.specs.Led.{after}

abbrev pub num : Bid → ℕ
num b = b.0

-- ---- what is read

-- n buffers, from b on
unfoldable pub run : List ℕ → ℕ → ℕ → List ℕ
run t zero b = []
run t (suc n) b = b ∷ run t n (after t b)

-- the n lowest that are free, or all where fewer are
abbrev pub lows : ℕ → (ℕ → Bool) → List ℕ
lows n free = take n (those 0 width free)

-- how many buffers the message at a buffer has: none at place 0, where no message begins
abbrev pub need_at : ℕ → ℕ → ℕ
need_at place n = if eqb place 0 then 0 else needed n

-- ---- what becomes of it

-- every buffer linked to itself
abbrev pub own : List ℕ
own = Rings.own width

-- each of l linked to the one behind it, the last to itself
unfoldable pub link_up : List ℕ → List ℕ → List ℕ
link_up t [] = t
link_up t (x ∷ l) = link_up (set t x (get_or l 0 x)) l

-- each of l linked to itself
unfoldable pub alone : List ℕ → List ℕ → List ℕ
alone t [] = t
alone t (x ∷ l) = alone (set t x x) l

-- f, but v at each of l
unfoldable pub puts : (ℕ → Bool) → List ℕ → Bool → ℕ → Bool
puts f l v p = if ltb 0 (occurs p l) then v else f p

-- the free ones without l, and with l
abbrev pub removed : (ℕ → Bool) → List ℕ → ℕ → Bool
removed free l = puts free l false

abbrev pub added : (ℕ → Bool) → List ℕ → ℕ → Bool
added free l = puts free l true
