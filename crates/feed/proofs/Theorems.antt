-- The theorems, from the desk's.
-- Assumes nothing.
use Prim.Native.Nat.{ℕ, ◌+◌, ◌≤◌, ◌<◌}
use mathlib.Core.List.{List, [], ◌++◌}
use mathlib.Core.Logic.{◌⊎◌, inl, inr}
use mathlib.Core.Path.{◌≡◌, refl, sym, ap, ◌∙◌, subst}
use native.Mathlib.Omega.{arith}
use lib.ListN.{length, take, replicate, length-replicate}
use lib.Seq.{length-take-le}
use Rattle.std.specs.Prelude.{Option, None, Some}
use Rattle.lists.proofs.Laws.{le?}
use Rattle.script.specs.Grammar.{longest_line}
use Rattle.answers.proofs.AreaLaws.{written-whole, one_written}
use Rattle.desk.specs.declared.Desk.{Desk}
use Rattle.desk.proofs.Theorems.{one_desk, scripts}
use Rattle.feed.specs.Cut.{ending, pending, lines_of, with_newlines}
use Rattle.feed.specs.Buffer.{TooLong, Told, HoldsLine, whole, long}
use Rattle.feed.specs.Theorems.{SomeLine, EveryBuffer, OneFresh, OneFeed, OneFinish, Chunks, Input, at_end, WholeInput, AnyChunks, OneBad}
use Rattle.feed.specs.declared.Ongoing.{Ongoing}
use Rattle.feed.proofs.Cutting.{first-line}
use Rattle.feed.proofs.BufferLaws.{empty, in_buffer, over_is_none}
use Rattle.feed.proofs.Taking.{bounds, whole_end, one_way}
use Rattle.feed.proofs.Passing.{Passed, nothing, taken, passed, one_session}

pub every_buffer : EveryBuffer
every_buffer line None size = record { bytes = replicate (longest_line + 1) 0; holds = long tt (rw length-replicate (omega arith)) }
every_buffer line (Some n) size = by (le? n longest_line)
  where
    by : (n ≤ longest_line) ⊎ (longest_line < n) → SomeLine line (Some n)
    by (inl h) = record { bytes = take n line; holds = whole h (sym (length-take-le n line (omega arith))) refl }
    by (inr h) = record { bytes = replicate n 0; holds = long h (rw length-replicate h) }

-- ---- no second answer

pub one-fresh : OneFresh
one-fresh o₁ o₂ a b =
    let desk = one_desk _ _ _ a.desk b.desk in
    let held = a.held ∙ sym b.held in
    λ i. record { desk = desk i; held = held i }

one-held : {p₁ p₂ line₁ line₂ : List ℕ} {n₁ n₂ : Option ℕ} → p₁ ≡ p₂ → Told n₁ → Told n₂ → HoldsLine p₁ line₁ n₁ → HoldsLine p₂ line₂ n₂ → n₁ ≡ n₂
one-held e small₁ small₂ (whole short₁ counted₁ content₁) (whole short₂ counted₂ content₂) = ap Some (counted₁ ∙ ap length e ∙ sym counted₂)
one-held e small₁ small₂ (whole short₁ counted₁ content₁) (long over₂ far₂) = absurd (omega (arith, ap length e))
one-held e small₁ small₂ (long over₁ far₁) (whole short₂ counted₂ content₂) = absurd (omega (arith, ap length e))
one-held e small₁ small₂ (long {n = n₁} over₁ far₁) (long {n = n₂} over₂ far₂) = no_number n₁ small₁ over₁ ∙ sym (no_number n₂ small₂ over₂)
  where
    no_number : (n : Option ℕ) → Told n → TooLong n → n ≡ None
    no_number None small over = refl
    no_number (Some n) small over = absurd (omega arith)

pub one_feed : OneFeed
one_feed store line chunk out store₁ store₂ line₁ line₂ out₁ out₂ o r₁ r₂ size f₁ f₂ =
    let s = every_buffer line o.held size in
    let a = f₁ s.bytes s.holds in
    let b = f₂ s.bytes s.holds in
    let same = one_way a.takes b.takes in
    let written = one_written same.answers a.written b.written in
    let held = one-held same.pending a.small b.small a.held b.held in
    record {
      fed = λ i. record { next = record { desk = same.desk i; held = held i }; used = same.used i; wrote = written.0 i };
      store = same.store;
      area = written.1;
      line = λ n e. in_buffer (rw e at a.small) (rw e at a.held) ∙ same.pending ∙ sym (in_buffer (rw e at a.small) (rw (sym held ∙ e) at b.held));
    }

pub one_finish : OneFinish
one_finish store line out store₁ store₂ out₁ out₂ o r₁ r₂ size f₁ f₂ =
    let s = every_buffer line o.held size in
    let a = f₁ s.bytes s.holds in
    let b = f₂ s.bytes s.holds in
    let same = one_way a.takes b.takes in
    let written = one_written same.answers a.written b.written in
    record { turn = λ i. record { desk = same.desk i; length = written.0 i }; store = same.store; area = written.1 }

-- ---- any chunks

pub record After (p bytes written store : List ℕ) (d : Desk) (o : Ongoing) (store' line' : List ℕ) : Type 0 where
  pub left : List ℕ
  pub holds : HoldsLine left line' o.held
  pub all : Passed p bytes d store o.desk store' left written

pub chunks : {o o' : Ongoing} {store line bytes written store' line' : List ℕ} → Chunks o store line bytes written o' store' line' → (p : List ℕ) → HoldsLine p line o.held → After p bytes written store o.desk o' store' line'
chunks Chunks.none p h = record { left = p; holds = h; all = nothing }
chunks (Chunks.more chunk out out' r f later) p h =
    let a = f p h in
    let rest = chunks later a.pending a.held in
    let first = rw (sym (written-whole a.written (bounds a.takes).fits)) at (taken a.takes) in
    record { left = rest.left; holds = rest.holds; all = passed first rest.all }

record Through (p bytes written store : List ℕ) (d d' : Desk) (store' : List ℕ) : Type 0 where
  left : List ℕ
  all : Passed p (bytes ++ ending (pending p bytes)) d store d' store' left written

through : {o : Ongoing} {store line bytes written store' : List ℕ} {d' : Desk} → Input o store line bytes written d' store' → (p : List ℕ) → HoldsLine p line o.held → Through p bytes written store o.desk d' store'
through (at_end {o = o} {o' = o'} {store = store} {store' = store'} {store'' = store''} {bytes = bytes} {written = written} out out' r fed room finish) p h =
    let a = chunks fed p h in
    let f = finish a.left a.holds in
    let w : take r.length out' ≡ f.answers = written-whole f.written (bounds f.takes).fits in
    let all : take f.used (ending a.left) ≡ ending a.left = whole_end a.left room f.takes in
    let b = subst (λ (x : List ℕ × List ℕ). Passed a.left x.0 o'.desk store' r.desk store'' f.pending x.1) (λ i. (all i, sym w i)) (taken f.takes) in
    record { left = f.pending; all = subst (λ (l : List ℕ). Passed p (bytes ++ ending l) o.desk store r.desk store'' f.pending (written ++ take r.length out')) a.all.left (passed a.all b) }

pub whole_input : WholeInput
whole_input o store line bytes written store' d' new size input =
    let held : HoldsLine [] line o.held = rw new.held (empty line) in
    let a = (through input [] held).all in
    let f = scripts o.desk d' store store' (lines_of bytes) a.texts new.desk size a.session in
    record { answers = a.answers ∙ ap with_newlines f.answers; desk = f.desk; messages = f.messages }

pub any_chunks : AnyChunks
any_chunks o p store line₁ line₂ bytes written₁ written₂ store₁ store₂ d₁ d₂ h₁ h₂ input₁ input₂ =
    let a = (through input₁ p h₁).all in
    let b = (through input₂ p h₂).all in
    let same = one_session a.session b.session in
    record { written = a.answers ∙ ap with_newlines same.texts ∙ sym b.answers; desk = same.desk; store = same.store }

pub one-bad : OneBad
one-bad t l c free far = rw (first-line l c free, over_is_none l far)
