-- "Useless kernels to shut out", as a statement. It is proved under its own name in proofs/Theorems.antt.
-- One that refuses everything, answers a constant or never moves would meet `Fairness` alone: nobody ever becomes ready, or nobody behind another.
-- It does not answer as the plain kernel does, which demand 2 (docs/KERNEL.md) asks. Assumes nothing.
use Rattle.std.specs.Prelude.{ℕ, ◌≡◌, true, List, [], ◌∷◌, map}
use Rattle.plain.specs.State.{Settings, start, usual}
use Rattle.plain.specs.Calls.{Call, create, yield, Answer, answers, after}
use Rattle.plain_laws.specs.History.{is_refusal, moments, overtaken, last_first}

pub record Kernel : Type 1 where
  pub Memory : Type 0
  pub start : Memory
  pub reply : Memory → Call → Answer × List ℕ
  pub next : Memory → Call → Memory

abbrev pub replies : (K : Kernel) → K.Memory → List Call → List (Answer × List ℕ)
replies K s [] = []
replies K s (c ∷ cs) = K.reply s c ∷ replies K (K.next s c) cs

abbrev pub AnswersAsPlain : Settings → Kernel → Type 0
AnswersAsPlain x K = (cs : List Call) → replies K K.start cs ≡ answers (start x) cs

pub record UselessShutOut : Type 1 where
  pub refuses_all : (x : Settings) (K : Kernel) → ((s : K.Memory) (c : Call) → is_refusal (K.reply s c).0 ≡ true) → AnswersAsPlain x K → ⊥
  pub constant : (x : Settings) (K : Kernel) (a : Answer × List ℕ) → ((s : K.Memory) (c : Call) → K.reply s c ≡ a) → AnswersAsPlain x K → ⊥
  pub never_moves : (x : Settings) (K : Kernel) → ((s : K.Memory) (c : Call) → K.next s c ≡ s) → AnswersAsPlain x K → ⊥
  -- "one that does the first call and only reports success later": nothing moves after the first call, or every later one is a success
  pub first_only : (x : Settings) (K : Kernel) → ((c d : Call) → K.next (K.next K.start c) d ≡ K.next K.start c) → AnswersAsPlain x K → ⊥
  pub success_only : (x : Settings) (K : Kernel) → ((c d : Call) → (K.reply (K.next K.start c) d).0.code ≡ 0) → AnswersAsPlain x K → ⊥
  -- and one that lets the last run first is not fair: 1 yields while 2 is ready, and runs again before 2
  pub last_goes_first : overtaken [] 2 (map last_first (moments (after (start usual) (create 2 ∷ create 2 ∷ [])) (yield ∷ []))) ≡ 1
