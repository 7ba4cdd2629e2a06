-- THE SIGN OF A MATRIX AGAINST ITS ALTERNATING WORD (`matrix_signs`).
--
-- In order: the value of an alternating word is the word's sign times a form with signs (`tail_is`, `word_is`); the first column of such a form is
-- plus, and that of its negative minus (`column_is`); the theorem.
--
-- Why: in front of the form of a tail, S Q gives minus the next form and S P the next form itself; a last S gives minus, a first Q plus and a first P
-- minus. So S and P count as minus, and Q as plus.
-- Assumes nothing.
use mathlib.Core.Path.{◌≡◌, refl, sym, ◌∙◌, ap, subst}
use mathlib.Core.Logic.{inl, inr}
use mathlib.Core.Bool.{Bool, true, false, not}
use mathlib.Core.List.{List, ◌∷◌}
use Prim.Native.Nat.{ℕ, zero, suc, ◌+◌, ◌*◌, ◌<◌}
use native.Mathlib.Omega.{arith}
use lib.IntN.{pos, neg_ℤ}
use Rattle.matrix.specs.Matrix.{Mat, ◌⊗◌, 𝟙, neg, det, mat_s, ◌≈◌}
use Rattle.matrix.specs.Words.{Letter, S, Q, P, letter, value}
use Rattle.matrix.specs.Euclid.{Form, form, swap, positive, agree, word_of}
use Rattle.matrix.proofs.Matrix.{⊗-idr, det-≈, ≈-sym, ◌∙≈◌}
use Rattle.matrix.proofs.Form.{Tail, stop, last, sq, sp, letters, upper, lower, tail_form, whole, Unimodular}
use Rattle.matrix.proofs.Sign.{flip, signed, sign, S_Q_signed, S_P_signed, Q_signed, P_signed, agree_neg, agree_tail, agree_head}
use Rattle.matrix.proofs.Uniqueness.{Word, tail, head-Q, head-P, spelled, view}
use Rattle.matrix.proofs.Existence.{unimodular, existence}
use Rattle.signs.specs.Sign.{plus, minus, ◌·◌, with_sign, letter_sign, word_sign, entry_sign, column_sign, matrix_sign}
use Rattle.signs.specs.Theorem.{MatrixSigns}
use Rattle.signs.proofs.Sign.{·-comm, sign_sign, sign_right, sign_back, sign-≈}

-- ---- the values of words

-- a letter in front of a word of value m, up to the word's sign
put : (x : Letter) (l : List Letter) (m n : Mat) → letter x ⊗ m ≡ with_sign (letter_sign x) n → value l ≡ with_sign (word_sign l) m
    → value (x ∷ l) ≡ with_sign (word_sign (x ∷ l)) n
put x l m n e h =
    ap (λ (k : Mat). letter x ⊗ k) h
    ∙ sign_right (word_sign l) (letter x) m
    ∙ ap (with_sign (word_sign l)) e
    ∙ sign_sign (word_sign l) (letter_sign x) n
    ∙ ap (λ (b : Bool). with_sign b n) (·-comm (word_sign l) (letter_sign x))

opposite : (s r : Bool) → s · not r ≡ not (r · s)
opposite true true = refl
opposite true false = refl
opposite false true = refl
opposite false false = refl

-- and S and a power of Q there
put_S : (x : Letter) (l : List Letter) (m n : Mat) → mat_s ⊗ (letter x ⊗ m) ≡ with_sign (not (letter_sign x)) n → value l ≡ with_sign (word_sign l) m
    → value (S ∷ x ∷ l) ≡ with_sign (word_sign (S ∷ x ∷ l)) n
put_S x l m n e h =
    let s = word_sign l in
    ap (λ (k : Mat). mat_s ⊗ (letter x ⊗ k)) h
    ∙ ap (λ (k : Mat). mat_s ⊗ k) (sign_right s (letter x) m)
    ∙ sign_right s mat_s (letter x ⊗ m)
    ∙ ap (with_sign s) e
    ∙ sign_sign s (not (letter_sign x)) n
    ∙ ap (λ (b : Bool). with_sign b n) (opposite s (letter_sign x))

abbrev TailIs : Tail → Type 0
TailIs w = value (letters w) ≡ with_sign (word_sign (letters w)) (signed false (sign w) (tail_form w))

stop_is : TailIs stop
unfolding 𝟙
stop_is = refl

last_is : TailIs last
unfolding neg mat_s
last_is = ⊗-idr mat_s

tail_is : (w : Tail) → TailIs w
tail_is stop = stop_is
tail_is last = last_is
tail_is (sq w) =
    let f = tail_form w in
    put_S Q (letters w) (signed false (sign w) f) (signed false (sign w) (upper f)) (S_Q_signed (sign w) f) (tail_is w)
tail_is (sp w) =
    let f = tail_form w in
    put_S P (letters w) (signed false (sign w) f) (signed false (sign w) (lower f)) (S_P_signed (sign w) f) (tail_is w)

squares : (x y : ℕ) → 0 < x + y → 0 < x * x + y * y
squares zero zero h = omega arith
squares zero (suc y) h = omega arith
squares (suc x) y h = omega arith

record Value (l : List Letter) : Type 0 where
  head : Bool
  column : Bool
  shape : Form
  is : value l ≡ with_sign (word_sign l) (signed head column shape)
  right : agree (signed head column shape) ≡ head

word_is : (w : Word) → Value (spelled w)
word_is (tail w) = record { head = false; column = sign w; shape = tail_form w; is = tail_is w; right = agree_tail (sign w) (tail_form w) }
word_is (head-Q w) =
    let f = tail_form w in
    let g = swap (upper f) in
    let k = whole w in
    record {
      head = true;
      column = sign w;
      shape = g;
      is = put Q (letters w) (signed false (sign w) f) (signed true (sign w) g) (Q_signed (sign w) f) (tail_is w);
      right = agree_head (sign w) g (omega (arith, squares f.r f.t k.bottom));
    }
word_is (head-P w) =
    let f = tail_form w in
    let g = swap (lower f) in
    let k = whole w in
    record {
      head = true;
      column = sign w;
      shape = g;
      is = put P (letters w) (signed false (sign w) f) (signed true (sign w) g) (P_signed (sign w) f) (tail_is w);
      right = agree_head (sign w) g (omega (arith, squares f.p f.q k.top));
    }

-- ---- the first column of a form with signs

-- p and r are the first column of a form that is one apart, so they are not both 0
some_column : (f : Form) → Unimodular f → 0 < f.p + f.r
some_column f u = go f.p f.q f.r f.t u
  where
    go : (p q r t : ℕ) → Unimodular (form p q r t) → 0 < p + r
    go zero q zero t (inl e) = absurd (omega arith)
    go zero q zero t (inr e) = absurd (omega arith)
    go zero q (suc r) t u = omega arith
    go (suc p) q r t u = omega arith

column_plus : (p r : ℕ) (k a : Bool) → a ≡ k → 0 < p + r → entry_sign (pos p) (a · positive (flip k (pos r))) ≡ plus
column_plus (suc p) r k a e h = refl
column_plus zero zero k a e h = absurd (omega arith)
column_plus zero (suc r) true a e h = ap (λ (b : Bool). b · plus) e
column_plus zero (suc r) false a e h = ap (λ (b : Bool). b · minus) e

column_minus : (p r : ℕ) (k a : Bool) → a ≡ k → 0 < p + r → entry_sign (neg_ℤ (pos p)) (a · positive (neg_ℤ (flip k (pos r)))) ≡ minus
column_minus (suc p) r k a e h = refl
column_minus zero zero k a e h = absurd (omega arith)
column_minus zero (suc r) true a e h = ap (λ (b : Bool). b · minus) e
column_minus zero (suc r) false a e h = ap (λ (b : Bool). b · plus) e

column_neg : (k s : Bool) (f : Form) → agree (signed k s f) ≡ k → 0 < f.p + f.r → column_sign (neg (signed k s f)) ≡ minus
unfolding neg
column_neg k s f e h = column_minus f.p f.r k (agree (neg (signed k s f))) (agree_neg (signed k s f) ∙ e) h

-- a matrix that is a form with signs, up to sign, is that form with the sign of its column
column_is : (m : Mat) (k s : Bool) (f : Form) → agree (signed k s f) ≡ k → 0 < f.p + f.r → m ≈ signed k s f
    → m ≡ with_sign (column_sign m) (signed k s f)
column_is m k s f e h (inl z) =
    z ∙ ap (λ (b : Bool). with_sign b (signed k s f)) (sym (ap column_sign z ∙ column_plus f.p f.r k (agree (signed k s f)) e h))
column_is m k s f e h (inr z) = z ∙ ap (λ (b : Bool). with_sign b (signed k s f)) (sym (ap column_sign z ∙ column_neg k s f e h))

-- ---- the theorem

by_value : (m : Mat) (l : List Letter) → det m ≡ pos 1 → value l ≈ m → Value l → m ≡ with_sign (column_sign m · word_sign l) (value l)
by_value m l d e n =
    let x = signed n.head n.column n.shape in
    let near : m ≈ x = ≈-sym e ∙≈ (inl n.is ∙≈ sign-≈ (word_sign l) x) in
    let u = unimodular n.head n.column n.shape (sym (det-≈ near) ∙ d) in
    column_is m n.head n.column n.shape n.right (some_column n.shape u) near
    ∙ ap (with_sign (column_sign m)) (sign_back (word_sign l) (value l) x n.is)
    ∙ sign_sign (column_sign m) (word_sign l) (value l)

pub matrix_signs : MatrixSigns
unfolding matrix_sign
matrix_signs m d =
    let e = existence m d in
    let w = view (word_of m) e.0 in
    by_value m (word_of m) d e.1 (subst Value w.is (word_is w.word))
