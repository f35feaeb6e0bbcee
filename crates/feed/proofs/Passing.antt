-- What is taken, as lines that a desk's session answers: chunk after chunk, and in one way only.
-- Assumes nothing.
use Prim.Native.Nat.{ℕ, suc, ◌+◌}
use mathlib.Core.List.{List, [], ◌∷◌, ◌++◌}
use mathlib.Core.Path.{◌≡◌, refl, sym, ap, ◌∙◌, subst}
use native.Mathlib.Omega.{arith}
use lib.ListN.{length, take}
use lib.Seq.{take-length, take-append-add}
use Rattle.answers.proofs.AreaLaws.{written-whole}
use Rattle.desk.specs.Theorems.{Session}
use Rattle.desk.specs.declared.Desk.{Desk}
use Rattle.desk.proofs.Texts.{answered_short}
use Rattle.desk.proofs.Theorems.{one-answered}
use Rattle.feed.specs.Cut.{newline, ended, pending, with_newlines}
use Rattle.feed.specs.Takes.{Takes, no_room, part, ends}
use Rattle.feed.proofs.Cutting.{ended-append, pending-append, newlines_append, no_end, all-pending, first_end, after_end}
use Rattle.feed.proofs.Answering.{one_more}

-- with p pending, the lines that end in c are answered in order, p' is pending then, and w is what was answered
pub record Passed (p c : List ℕ) (d : Desk) (store : List ℕ) (d' : Desk) (store' p' w : List ℕ) : Type 0 where
  pub texts : List (List ℕ)
  pub session : Session d store (ended p c) texts d' store'
  pub left : p' ≡ pending p c
  pub answers : w ≡ with_newlines texts

pub nothing : {p store : List ℕ} {d : Desk} → Passed p [] d store d store p []
unfolding ended pending
nothing = record { texts = []; session = Session.over; left = refl; answers = refl }

pub taken : {d d' : Desk} {store p chunk store' p' w : List ℕ} {room used : ℕ} → Takes d store p chunk room d' store' p' used w → Passed p (take used chunk) d store d' store' p' w
taken (no_room none) = nothing
taken {p = p} {chunk = chunk} (part room free) =
    rw (take-length chunk) (record { texts = []; session = rw (no_end p chunk free) Session.over; left = sym (all-pending p chunk free); answers = refl })
taken {p = p} (ends {used = used} a c text room free e answered later) =
    let b = taken later in
    let first : take (length a + 1 + used) (a ++ (newline ∷ c)) ≡ a ++ (newline ∷ take used c) = take-line a c used in
    rw (e, first) (record {
      texts = text ∷ b.texts;
      session = rw (first_end p a (take used c) free) (one_more (p ++ a) answered b.session);
      left = b.left ∙ sym (after_end p a (take used c) free);
      answers = ap (λ (l : List ℕ). text ++ (newline ∷ l)) b.answers;
    })
  where
    take-line : (a c : List ℕ) (n : ℕ) → take (length a + 1 + n) (a ++ (newline ∷ c)) ≡ a ++ (newline ∷ take n c)
    take-line a c n =
        let more : length a + 1 + n ≡ length a + suc n = omega arith in
        rw more (take-append-add a (newline ∷ c) (suc n))

-- ---- one after another

sessions : {d d' d'' : Desk} {store store' store'' : List ℕ} {l₁ l₂ t₁ t₂ : List (List ℕ)} → Session d store l₁ t₁ d' store' → Session d' store' l₂ t₂ d'' store'' → Session d store (l₁ ++ l₂) (t₁ ++ t₂) d'' store''
sessions Session.over s = s
sessions (Session.turn r l room later) s = Session.turn r l room (sessions later s)

pub passed : {p c₁ c₂ p' p'' : List ℕ} {d d' d'' : Desk} {store store' store'' w₁ w₂ : List ℕ} → Passed p c₁ d store d' store' p' w₁ → Passed p' c₂ d' store' d'' store'' p'' w₂ → Passed p (c₁ ++ c₂) d store d'' store'' p'' (w₁ ++ w₂)
passed {p} {c₁} {c₂} {d'' = d''} {store' = store'} {store'' = store''} a b = record {
  texts = a.texts ++ b.texts;
  session = rw (ended-append p c₁ c₂) (sessions a.session (rw a.left at b.session));
  left = b.left ∙ rw a.left (sym (pending-append p c₁ c₂));
  answers = rw (a.answers, b.answers) (sym (newlines_append a.texts b.texts));
}

-- ---- in one way only

pub record SamePassed (d₁ d₂ : Desk) (store₁ store₂ : List ℕ) (texts₁ texts₂ : List (List ℕ)) : Type 0 where
  pub desk : d₁ ≡ d₂
  pub store : store₁ ≡ store₂
  pub texts : texts₁ ≡ texts₂

pub one_session : {d d₁ d₂ : Desk} {store store₁ store₂ : List ℕ} {lines texts₁ texts₂ : List (List ℕ)} → Session d store lines texts₁ d₁ store₁ → Session d store lines texts₂ d₂ store₂ → SamePassed d₁ d₂ store₁ store₂ texts₁ texts₂
one_session Session.over Session.over = record { desk = refl; store = refl; texts = refl }
one_session {d₂ = d₂} {store₂ = store₂} (Session.turn {line = line} {lines = lines} r l room later) (Session.turn {texts = texts} r' l' room' later') =
    let same = one-answered l.answered l'.answered in
    let again = subst (λ (x : Desk × List ℕ). Session x.0 x.1 lines texts d₂ store₂) (λ i. (sym same.desk i, sym same.store i)) later' in
    let rest = one_session later again in
    let text = written-whole l.written (omega (arith, answered_short l.answered)) ∙ same.text ∙ sym (written-whole l'.written (omega (arith, answered_short l'.answered))) in
    record { desk = rest.desk; store = rest.store; texts = λ i. text i ∷ rest.texts i }
