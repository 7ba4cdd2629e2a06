-- WHAT THE NUMBER OF A CALL FOR ONE MATRIX TELLS (`matrix_says`, `matrix_sign_says`), by its claim; and so the exported calls say what they promise
-- (`matrix_call`, `signed_matrix_call`), and their refusals have numbers above 0 (`matrix_numbered`).
-- Assumes nothing.
use mathlib.Core.Path.{◌≡◌, refl, sym, ap, ◌∙◌}
use mathlib.Core.Logic.{inl, inr}
use mathlib.Core.Bool.{Bool}
use mathlib.Core.List.{List, ◌∷◌}
use Prim.Native.Nat.{ℕ}
use lib.ListN.{length}
use lib.IntN.{ℤ}
use Rattle.matrix.specs.Matrix.{of_list}
use Rattle.pairing.specs.Generator.{generators}
use Rattle.pairing.specs.Subgroup.{value_of}
use Rattle.call.specs.Space.{work_length}
use Rattle.call.specs.Refusal.{answer_number, answer_place, Checked, Answer}
use Rattle.call.specs.Call.{Step, Asks, Clears, length_check, verdict, if_accepted, Leaves}
use Rattle.call.proofs.Laws.{Numbered}
use Rattle.symbol.specs.Check.{symbol_check}
use Rattle.word.specs.Answer.{query_place, sign_number, part_of, word_fits, word_if}
use Rattle.word.specs.Claim.{Tells}
use Rattle.word.specs.declared.FoundWord.{FoundWord}
use Rattle.word.proofs.Finding.{walk_run}
use Rattle.word.proofs.Order.{left_if}
use Rattle.sheets.proofs.Said.{unit_of, ten_none}
use Rattle.matrix_word.specs.Answer.{matrix_check, is_member, member_word, member_sign}
use Rattle.matrix_word.specs.Claim.{ValidMatrix, MatrixClaim, MatrixSays, MatrixSignSays}
use Rattle.matrix_word.proofs.Meaning.{of_H, value_of_lem, form_of, times_one, matrix_claim, member_numbered}
use Rattle.engine.specs.Exported.{sign_written}
use Rattle.engine.proofs.Numbers.{walk_numbered}
use Rattle.engine.proofs.Said.{zero_product, zero_normal, eleven_normal, zero_sign, zero_exact, number_if, place_if, sign_if}

module _ (v : ℕ) (t m : List ℤ) (w : List ℕ) (out : List ℤ) (start : ℕ) (r : Answer FoundWord) (out' : List ℤ) (c : MatrixClaim v t m w out start r out')
    (n place : ℕ) (e : n ≡ answer_number r) (p : place ≡ query_place r) where
  got : n ≡ 0 → ValidMatrix v t m w
  got z = c.asked (inl (sym e ∙ z))

  pub matrix_says : MatrixSays v t m w start n place out'
  matrix_says = record {
    none = λ z. (let q = c.asked (inr (sym e ∙ z)) in (q, λ h. ten_none (c.answered q) (sym e ∙ z) (of_H v t (of_list m) h)));
    asked = got;
    product = λ z. value_of_lem v t (of_list m) (part_of out' start place) (zero_product (c.answered (got z)) p (sym e ∙ z));
    normal = λ z. form_of v t (of_list m) (part_of out' start place) (zero_normal (c.answered (got z)) p (sym e ∙ z));
    short = λ z q.
        let k = eleven_normal (c.answered q) p (sym e ∙ z) in
        let f = form_of v t (of_list m) (member_word v t m) k.1 in
        (record { word = member_word v t m; letters = f.letters; is = f.is }, sym k.0, f);
  }

  pub matrix_sign_says : (x y : ℤ) → x ≡ sign_written r y → MatrixSignSays v t m start n place x out'
  matrix_sign_says x y f = record {
    unit = λ z. unit_of (member_sign v t m) (zero_sign (c.answered (got z)) y f (sym e ∙ z));
    exact = λ z. sym (times_one (value_of (generators v t) (part_of out' start place))) ∙ zero_exact (c.answered (got z)) y p f (sym e ∙ z);
  }

-- ---- the calls

-- the steps of a word, from the spaces w and out to w' and out'
abbrev pub matrix_run : (v : ℕ) (t m : List ℤ) (w w' : List ℕ) (out out' : List ℤ) (start : ℕ) → List Step
matrix_run v t m w w' out out' start =
    Asks (symbol_check v t) ∷ Asks (matrix_check m) ∷ Asks (length_check work_length (length w)) ∷ Clears w w'
    ∷ walk_run (is_member v t m) (member_word v t m) out out' start

module _ (v : ℕ) (t m : List ℤ) (w w' : List ℕ) (out out' : List ℤ) (start : ℕ) where
  pub matrix_numbered : Numbered (matrix_run v t m w w' out out' start)
  matrix_numbered =
      let k = member_numbered v t m w in
      let n = length (member_word v t m) in
      (k.0, (k.1.0, (k.1.1.0, walk_numbered (is_member v t m) n (word_fits start n (length out)))))

  module _ (l : Leaves (matrix_run v t m w w' out out' start)) where
    abbrev n : ℕ
    n = length (member_word v t m)

    abbrev q : Bool
    q = member_sign v t m

    abbrev c : Checked
    c = verdict (matrix_run v t m w w' out out' start)

    abbrev number : ℕ
    number = answer_number c

    abbrev place : ℕ
    place = if_accepted c n (answer_place c)

    abbrev answer : (Answer FoundWord)
    answer = word_if start n q c

    all : MatrixClaim v t m w out start answer out'
    all = matrix_claim v t m w out start answer out' refl (l.1.0 ∙ left_if start n q c (member_word v t m) out)

    told : Tells answer number place
    told = (number_if start n q c, sym (place_if start n q c))

    abbrev Said : Type 0
    Said = Tells answer number place × MatrixClaim v t m w out start answer out' × MatrixSays v t m w start number place out'

    pub matrix_call : Said
    matrix_call = (told, all, matrix_says v t m w out start answer out' all number place told.0 told.1)

    pub signed_matrix_call : (x y : ℤ) → x ≡ if_accepted c (sign_number q) y → Said × MatrixSignSays v t m start number place x out'
    signed_matrix_call x y f =
        (matrix_call, matrix_sign_says v t m w out start answer out' all number place told.0 told.1 x y (f ∙ sym (sign_if start n q c y)))
