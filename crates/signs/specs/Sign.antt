-- Signs, matrices with a sign, and the sign of a matrix against its alternating word.
--
--   plus, minus        the two signs, as the values true and false of a test
--   s · r              the product of two signs
--   with_sign s m       the matrix m with the sign s in front: m itself, or its negative
--   letter_sign x      what the letter x adds to the sign of an alternating word: plus for Q, minus for S and for P
--   word_sign l        the product of these over the letters of l
--   entry_sign z s     the sign of the integer z, and s where z is 0
--   column_sign m      the sign of the first column of m: that of its upper entry, or where this is 0, that of its
--                      lower entry, and then the opposite where the rows don't agree (`agree`, in the crate matrix):
--                      minus for S, whose word is S with its minus
--   matrix_sign m      the sign of m against its alternating word: m is that sign times the value of the word
--
-- No product of matrices is needed: the value of an alternating word has the column sign `word_sign`.
use Rattle.std.specs.Prelude.{Bool, true, false, not, List, [], ◌∷◌, zero, suc, ℤ, pos, negsuc}
use Rattle.matrix.specs.Matrix.{Mat, neg}
use Rattle.matrix.specs.Words.{Letter, S, Q, P}
use Rattle.matrix.specs.Euclid.{positive, agree, word_of}

abbrev pub plus : Bool
plus = true

abbrev pub minus : Bool
minus = false

infixl 7 ◌·◌
abbrev pub ◌·◌ : Bool → Bool → Bool
true · r = r
false · r = not r

abbrev pub with_sign : Bool → Mat → Mat
with_sign true m = m
with_sign false m = neg m

-- ---- a matrix and its alternating word

abbrev pub letter_sign : Letter → Bool
letter_sign S = minus
letter_sign Q = plus
letter_sign P = minus

abbrev pub word_sign : List Letter → Bool
word_sign [] = plus
word_sign (x ∷ l) = letter_sign x · word_sign l

abbrev pub entry_sign : ℤ → Bool → Bool
entry_sign (pos zero) s = s
entry_sign (pos (suc n)) s = plus
entry_sign (negsuc n) s = minus

abbrev pub column_sign : Mat → Bool
column_sign m = entry_sign m.a (agree m · positive m.c)

unfoldable pub matrix_sign : Mat → Bool
matrix_sign m = column_sign m · word_sign (word_of m)
