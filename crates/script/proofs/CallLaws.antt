-- Laws of a line's words and of the word that it is.
-- Assumes nothing.
use Prim.Native.Nat.{ℕ}
use mathlib.Core.Path.{◌≡◌, refl, sym, ap, subst, ◌∙◌}
use mathlib.Core.List.{List, ◌∷◌}
use mathlib.Core.Option.{Option, none, some}
use Rattle.std.specs.Prelude as Code
use Rattle.std.specs.Prelude.{option_map}
use Rattle.plain.specs.Calls.{send}
use Rattle.script.specs.Grammar.{does, words, bytes, given, sentence, order}
use Rattle.script.specs.Request.{word_of, Tells}
use Rattle.script.specs.Promises.{counted, sending}
use Rattle.script.specs.declared.calls.Word.{Word}
use Rattle.script.proofs.LimitLaws.{Fits, order_limited}
use Rattle.script.proofs.WordLaws.{words-begin}

-- a fourth space makes a fifth word, which no order has
pub sentence_five : (w x y z l : List ℕ) → sentence (w ∷ x ∷ y ∷ z ∷ words l) ≡ none
sentence_five w x y z l = rw (words-begin l).whole

-- a send, by how many bytes were read
pub sends : (m : ℕ) (hex : List ℕ) (n : Code.Option ℕ) → n ≡ counted (bytes hex) → option_map (Word.Send m) n ≡ word_of (sending m hex)
sends m hex n e = ap (option_map (Word.Send m)) e ∙ go (bytes hex)
  where
    go : (o : Option (List ℕ)) → option_map (Word.Send m) (counted o) ≡ word_of (given o (λ b. some (does (send m b))))
    go none = refl
    go (some b) = refl

pub tells : (line : List ℕ) (w : Code.Option Word) → w ≡ word_of (order line) → Tells line w
tells line w e =
    let limits = order_limited line in
    let fits : Fits line w = rw e limits.fits in
    record {
      meaning = rw e limits.meaning;
      only = e;
      short = λ m n is. subst (Fits line) is fits;
      room = λ n is. subst (Fits line) is fits;
    }

-- no second word keeps the promise for a line
pub one_request : (line : List ℕ) (w v : Code.Option Word) → Tells line w → Tells line v → w ≡ v
one_request line w v a b = a.only ∙ sym b.only
