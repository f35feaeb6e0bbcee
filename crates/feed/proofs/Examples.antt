-- How some inputs are cut, computed.
-- Assumes nothing.
use mathlib.Core.Path.{◌≡◌, refl}
use mathlib.Core.List.{[], ◌∷◌}
use Rattle.feed.specs.Cut.{newline, ended, pending, lines_of}

-- no input is no line
pub none : lines_of [] ≡ []
unfolding ended pending
none = refl

-- a last line counts with its newline and without, once
pub with : lines_of (97 ∷ newline ∷ 98 ∷ newline ∷ []) ≡ (97 ∷ []) ∷ (98 ∷ []) ∷ []
unfolding ended pending
with = refl

pub without : lines_of (97 ∷ newline ∷ 98 ∷ []) ≡ (97 ∷ []) ∷ (98 ∷ []) ∷ []
unfolding ended pending
without = refl

-- an empty line is a line
pub blank : lines_of (newline ∷ newline ∷ 98 ∷ []) ≡ [] ∷ [] ∷ (98 ∷ []) ∷ []
unfolding ended pending
blank = refl
