-- Laws of the reply's definitions.
--     replied_as                 the line for an answer of `query`
--     few-line, enough-line      the line for the numbers of a text, by the test that the code makes
--     reply_means                what the bytes mean
-- Assumes nothing.
use mathlib.Core.Path.{◌≡◌, refl, sym, ap, ◌∙◌}
use mathlib.Core.Bool.{Bool}
use mathlib.Core.List.{List}
use Prim.Native.Nat.{ℕ, ◌≤◌, ◌<◌}
use native.Mathlib.Omega.{arith}
use lib.Dec.{ltb}
use Rattle.basics.specs.Choice.{pick}
use lib.IntN.{ℤ}
use lib.ListN.{length, take}
use lib.Seq.{length-take-le}
use borrow.Author.Tests.{lt-ltb, le-ltb}
use Rattle.matrix.specs.Matrix.{of_list}
use Rattle.call.specs.Refusal.{Filled, Answer}
use Rattle.call.specs.declared.refusal.Refusal.TheVariants.{BadVertexCount}
use Rattle.call.specs.Space.{work_length}
use Rattle.basics.proofs.Choice.{pick_true, pick_false}
use Rattle.text.specs.Piece.{pieces, numbers}
use Rattle.text.specs.Reading.{by_reading, count_in}
use Rattle.text.proofs.Handed.{input_on}
use Rattle.text.specs.Line.{refusal_line}
use Rattle.word.specs.Answer.{found_word, query_of}
use Rattle.word.specs.declared.FoundWord.{FoundWord}
use Rattle.word.proofs.Order.{claim}
use Rattle.query_text.specs.Reply.{letters_lent, said, symbol_in, first_in, second_in, replied_to}
use Rattle.query_text.specs.Inner.Spaces.{replied}
use Rattle.query_text.specs.Reply.{query_format, reply_of, ReplyMeans}

module _ (v : ℕ) (t a b : List ℤ) (r : Answer FoundWord) (work room : ℕ) (g : work ≡ work_length) (h : room ≡ letters_lent) (e : r ≡ query_of v t a b work room 0) where
  as_lent : r ≡ query_of v t a b work_length letters_lent 0
  as_lent = e ∙ ap (λ (n : ℕ). query_of v t a b n room 0) g ∙ ap (λ (n : ℕ). query_of v t a b work_length n 0) h

  pub replied_as : said r (found_word v t (of_list a) (of_list b)) ≡ replied v t a b
  unfolding replied
  replied_as = ap (λ (x : Answer FoundWord). said x (found_word v t (of_list a) (of_list b))) as_lent

-- what is asked, by equals
pub asked_as : {X : Type 0} {v v' : ℕ} {t t' a a' b b' : List ℤ} (f : ℕ → List ℤ → List ℤ → List ℤ → X) → v ≡ v' → t ≡ t' → a ≡ a' → b ≡ b'
    → f v t a b ≡ f v' t' a' b'
asked_as f e g h k = cc

module _ (ns : List ℤ) where
  few : {X : Type 0} (x y : X) → length ns < 10 → x ≡ pick (ltb (length ns) 10) x y
  few x y h = sym (pick_true (ltb (length ns) 10) x y (lt-ltb (length ns) 10 h))

  enough : {X : Type 0} (x y : X) → 10 ≤ length ns → y ≡ pick (ltb (length ns) 10) x y
  enough x y h = sym (pick_false (ltb (length ns) 10) x y (le-ltb (length ns) 10 h))

  pub few_line : length ns < 10 → refusal_line BadVertexCount ≡ replied_to ns
  unfolding replied_to
  few_line h = few _ _ h

  pub enough_line : 10 ≤ length ns → replied (count_in ns) (symbol_in ns) (first_in ns) (second_in ns) ≡ replied_to ns
  unfolding replied_to replied
  enough_line h = enough _ _ h

-- the claim holds of what a query in such spaces answers
pub reply_means : (longer : Bool) (text : List ℕ) {bytes : List ℕ} → bytes ≡ reply_of longer text → ReplyMeans longer text bytes
unfolding reply_of replied_to replied
reply_means longer text {bytes} b k ten e = record {
  line = b ∙ ap (λ (x : Filled). by_reading replied_to refusal_line x all) e ∙ sym (enough read (refusal_line BadVertexCount) _ long);
  claim = λ w letters work lent. claim
      (ap (λ (n : ℕ). query_of (count_in read) (symbol_in read) (first_in read) (second_in read) n letters_lent 0) (sym work)
      ∙ ap (λ (n : ℕ). query_of (count_in read) (symbol_in read) (first_in read) (second_in read) (length w) n 0) (sym lent))
      refl;
}
  where
    all : List ℤ
    all = numbers (pieces text)

    read : List ℤ
    read = take k all

    long : 10 ≤ length read
    long = omega (arith, length-take-le k all (input_on longer query_format text 3079 k (omega arith) (sym e)).there)
