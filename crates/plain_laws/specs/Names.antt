-- The theorems of request 4, over histories from fresh, as a statement. It is proved under its own name in proofs/Theorems.antt.
-- Assumes nothing.
use Rattle.std.specs.Prelude.{ℕ, ◌+◌, ◌%◌, ◌≤◌, ◌<◌, Bool, true, not, ◌&&◌, List, [], ◌∷◌, ◌≡◌}
use Rattle.plain.specs.Sizes.{processes}
use Rattle.plain.specs.State.{Procs, Settings, State, start, unused}
use Rattle.plain.specs.Names.{rounds, name, bare}
use Rattle.plain.specs.Calls.{Call, create, stop, Outcome, on, done, refused, stopped, step, after}
use Rattle.plain.specs.Sound.{Used}
use Rattle.plain.specs.Start.{Set}
use Rattle.plain.specs.Why as Why
use Rattle.plain_laws.specs.History.{as_one, is_done, Moment, moments}
use Rattle.plain_laws.specs.Useless.{Kernel, AnswersAsPlain}

-- ---- what is counted over the moments of a history

-- a number is unused before a call and not after it; or after it and not before it
abbrev pub begins : Procs → Procs → ℕ → Bool
begins r r' p = unused r p && not (unused r' p)

abbrev pub ends : Procs → Procs → ℕ → Bool
ends r r' p = not (unused r p) && unused r' p

-- how often p is born, and how often it is stopped
unfoldable pub born_in : ℕ → List Moment → ℕ
born_in p [] = 0
born_in p (m ∷ ms) = as_one (begins m.from m.to p) + born_in p ms

unfoldable pub stopped_in : ℕ → List Moment → ℕ
stopped_in p [] = 0
stopped_in p (m ∷ ms) = as_one (ends m.from m.to p) + stopped_in p ms

-- ---- what becomes of a name n: every call that takes a process takes it for p, or gives 1

pub record Taken (s : State) (n p : ℕ) : Type 0 where
  pub used : Used s.procs p
  pub stop : step s (stop n) ≡ done 0 (stopped p s)
  pub why : Why.why s n ≡ done 0 s
  pub told : Why.told s n ≡ Why.reason s p

abbrev pub unknown : State → Outcome
unknown s = refused (on 1 true) s

-- In s a create is accepted, which answers n; p is the number in it, `ms` what happens then, and t the state that this leads to.
pub record Fate (s : State) (n p : ℕ) (ms : List Moment) (t : State) : Type 0 where
  -- a number that was unused, now in use
  pub begun : (1 ≤ p) × (p < processes) × (unused s.procs p ≡ true)
  -- it names that process until it is stopped, whatever is called
  pub lives : stopped_in p ms ≡ 0 → Taken t n p
  -- after that it is refused until its number has been born 256 times more
  pub stale : 1 ≤ stopped_in p ms → born_in p ms < rounds → step t (stop n) ≡ unknown t
  -- and so by `why`, which till the next birth says of the last who had it that it is unused
  pub unasked : 1 ≤ born_in p ms → born_in p ms < rounds → Why.why t n ≡ unknown t
  pub last : 1 ≤ stopped_in p ms → born_in p ms ≡ 0 → (Why.why t n ≡ done 0 t) × (Why.told t n ≡ Why.unused)
  -- "A name returns after 256 births"
  pub returns : born_in p ms ≡ rounds → Used t.procs p → Taken t n p

pub record Names : Type 1 where
  pub fate : (x : Settings) (cs later : List Call) (c : ℕ) →
      let s : State = after (start x) cs in
      let o : Outcome = step s (create c) in
      let n : ℕ = o.answer.number in
      Set x → is_done o ≡ true → Fate s n (bare n) (moments o.next later) (after o.next later)
  -- the count that is kept is that of births
  pub kept : (x : Settings) (cs : List Call) (p : ℕ) → Set x → 1 ≤ p → (after (start x) cs).births p ≡ born_in p (moments (start x) cs) % rounds
  -- no two live processes have one name
  pub apart : (x : Settings) (cs : List Call) (p q : ℕ) →
      let s : State = after (start x) cs in
      Set x → Used s.procs p → Used s.procs q → name s.births p ≡ name s.births q → p ≡ q
  -- One that refuses every name does not answer as the plain kernel does, nor does one that goes by the bare number.
  pub refuses_names : (x : Settings) (K : Kernel) → ((s : K.Memory) (n : ℕ) → (K.reply s (stop n)).0.code ≡ 1) → AnswersAsPlain x K → ⊥
  pub by_number : (x : Settings) (K : Kernel) → ((s : K.Memory) (n : ℕ) → K.reply s (stop n) ≡ K.reply s (stop (bare n))) → AnswersAsPlain x K → ⊥
