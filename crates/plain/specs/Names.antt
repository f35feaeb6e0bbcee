-- Request 4, names: "01 lets a bare number name a process; that was wrong." Each number's birth count is kept in the state.
-- Assumes nothing.
use Rattle.std.specs.Prelude.{ℕ, ◌+◌, ◌*◌, ◌%◌, ◌≤◌, ◌<◌, Bool, ◌&&◌, ◌≡◌, ltb, eqb}
use Rattle.lists.specs.Lists.{put}
use Rattle.plain.specs.Sizes.{processes}
use Rattle.plain.specs.State.{State}

-- "A name returns after 256 births"
abbrev pub rounds : ℕ
rounds = 256

-- "raised by 1 at each create of it, from 255 back to 0"
unfoldable pub raised : ℕ → ℕ
raised b = (b + 1) % rounds

-- number p has birth count b
abbrev pub born : ℕ → ℕ → State → State
born p b s = record { procs = s.procs; hand = s.hand; box = s.box; count = s.count; births = put s.births p b; settings = s.settings }

-- "A name is the number plus 256 times its birth count"
unfoldable pub name : (ℕ → ℕ) → ℕ → ℕ
name births p = p + rounds * births p

-- the number in a name
unfoldable pub bare : ℕ → ℕ
bare n = n % rounds

-- n is the name of the number in it, by the birth count that is kept now
unfoldable pub names : (ℕ → ℕ) → ℕ → Bool
names births n = ltb (bare n) processes && eqb n (name births (bare n))

-- What is sound of birth counts: "Process 0's name stays 0", no count is over 255, and numbers from 32 on are nobody's.
pub record Births (births : ℕ → ℕ) : Type 0 where
  pub null : births 0 ≡ 0
  pub most : (p : ℕ) → births p < rounds
  pub no_more : (p : ℕ) → processes ≤ p → births p ≡ 0
