-- The alternating word of a matrix of determinant 1, found by the subtractive Euclidean algorithm on the sizes of its
-- entries.
--
--   Form, form p q r t   four naturals, the sizes of a matrix's entries row by row
--   sizes m              the form of the matrix m
--   total f              the sum of the four
--   swap f               the rows exchanged
--   positive z           whether the integer z is above 0
--   agree m              whether in some column of m both entries are above 0 or both below
--   pick b x y           x where b holds, else y
--   turn next f          one power of Q, where the form is that of a word which begins with one: Q where the upper row
--                        is the smaller one, else P; `next` gives the rest of the word from the form that is left
--   tail_of n f          the word of the form f, where it doesn't begin with a power of Q: nothing, S alone, or S and
--                        then a power of Q; n bounds the number of turns, and `total f` is always enough
--   head_of n f           the same where the word begins with a power of Q
--   spell h f            the word of the form f, which begins with a power of Q where h holds
--   word_of m             the word of the matrix m: it begins with a power of Q exactly when the rows agree
--
-- S exchanges the rows, Q and P take the smaller row from the larger one. The signs need no arithmetic: they are the
-- same all along.
use Rattle.std.specs.Prelude.{Bool, true, false, ◌||◌, List, [], ◌∷◌, ℕ, zero, suc, ◌+◌, ◌-◌, leb, eqb, ℤ, pos, negsuc, nat_abs, ◌*ℤ◌}
use Rattle.matrix.specs.Matrix.{Mat}
use Rattle.matrix.specs.Words.{Letter, S, Q, P}
use Rattle.basics.specs.Choice.{pick}

pub record Form : Type 0 where
  pub p : ℕ
  pub q : ℕ
  pub r : ℕ
  pub t : ℕ

abbrev pub form : ℕ → ℕ → ℕ → ℕ → Form
form p q r t = record { p = p; q = q; r = r; t = t }

abbrev pub sizes : Mat → Form
sizes m = form (nat_abs m.a) (nat_abs m.b) (nat_abs m.c) (nat_abs m.d)

abbrev pub total : Form → ℕ
total f = f.p + f.q + (f.r + f.t)

abbrev pub swap : Form → Form
swap f = form f.r f.t f.p f.q

abbrev pub positive : ℤ → Bool
positive (pos zero) = false
positive (pos (suc n)) = true
positive (negsuc n) = false

abbrev pub agree : Mat → Bool
agree m = positive (m.a *ℤ m.c) || positive (m.b *ℤ m.d)

abbrev pub turn : (Form → List Letter) → Form → List Letter
turn next f =
    let by_Q = Q ∷ next (form (f.r - f.p) (f.t - f.q) f.p f.q) in
    let by_P = P ∷ next (form f.r f.t (f.p - f.r) (f.q - f.t)) in
    pick (leb (f.p + f.q) (f.r + f.t)) by_Q by_P

abbrev pub tail_of : ℕ → Form → List Letter
tail_of zero f = []
tail_of (suc n) f =
    let more = S ∷ turn (tail_of n) (swap f) in
    pick (eqb (f.q + f.r) 0) [] (pick (eqb (f.p + f.t) 0) (S ∷ []) more)

abbrev pub head_of : ℕ → Form → List Letter
head_of n f = turn (tail_of n) f

abbrev pub spell : Bool → Form → List Letter
spell true f = head_of (total f) f
spell false f = tail_of (total f) f

abbrev pub word_of : Mat → List Letter
word_of m = spell (agree m) (sizes m)
