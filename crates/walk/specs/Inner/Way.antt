-- The walk as the code makes it: the rest of the matrix as four naturals, the position, and the letters counted and
-- stored.
--
--   Way                     the state of a walk: the form p q r s of what is left of the matrix, the position, the
--                           letters so far, the sign so far
--   form_of a                its form
--   rest_of a                the alternating word that is left, where it doesn't begin with a power of Q
--   proper_of f             whether the form f is neither that of the identity nor that of S
--   turn_letter f, turn_form f   the power of Q that a word with the form f begins with, and the form that is left
--   row_taken b k f         k times the lower row taken from the upper one, or the upper from the lower where b holds
--   RowTakes b k f          there is enough of it, entry by entry
--   Taken b k a c           the state c has that form, and all else is as in a
--   stored start limit n l out   the letters l, of which the first is number n of the word, stored from the place start
--                                on in `out`,
--                           each where its number is below the limit
--   put_from start l out    the letters l in place of those that stood from `start` on
--   sign_added v t x p      what the letter x at p adds to the sign: its own in an alternating word, times that of the
--                           step
--   sign_left v t s p l     the sign s times what the letters of l add to it from p on
--   Setting                 the tables of steps are there, and `limit` letters fit from the start place on
--   LetterPut x p n out k out'   what the letter x writes at p is counted, from n to k, and stored
--   WayStepped x a out b out'  the letter x leads from the state a to b, what it writes is counted, and stored, and
--                           what it adds to the sign is told; the step keeps its equation, sign included
--   Onward                  from l at x with n letters it is the same way as from m at y with k letters
--   OneApart f              p s and q r are one apart
--   Sound v t most a        the position is real, the form is one apart, and what is written and left has at most so
--                           many letters
--   Begun, Going, Ended     what the parts of the walk leave: its beginning, a turn, the end
--   Walked                  the walk of the whole word of m: where it ends, how many letters it writes, these stored,
--                           and the sign of m against them. THE EQUATION OF THE WALK: the frame of the position x where
--                           it starts times m is the sign times what it writes times the frame of where it ends
use Rattle.std.specs.Prelude.{◌≡◌, ◌⊎◌, Bool, not, ◌&&◌, List, [], ◌∷◌, ◌++◌, ℕ, suc, ◌+◌, ◌-◌, ◌*◌, ◌^◌, ◌≤◌, leb}
use Rattle.std.specs.Prelude.{ltb, eqb, length, set, take, drop, ℤ}
use Rattle.matrix.specs.Matrix.{Mat}
use Rattle.matrix.specs.Words.{Letter, Q, P, letter}
use Rattle.matrix.specs.Euclid.{Form, form, total, tail_of, word_of}
use Rattle.basics.specs.Choice.{pick}
use Rattle.coset.specs.Positions.{Real, step_s, turn_q, written, goes, ends, writes, FrameEquation}
use Rattle.coset.specs.Positions.{◌·◌, letter_sign, column_sign, matrix_sign, step_sign, sign_along, walk_sign}
use Rattle.coset.specs.Inner.Steps.{StepTables}
use Rattle.walk.specs.declared.Way.{Way}

abbrev pub form_of : Way → Form
form_of a = form a.p a.q a.r a.s

unfoldable pub rest_of : Way → List Letter
rest_of a = tail_of (total (form_of a)) (form_of a)

abbrev pub proper_of : Form → Bool
proper_of f = not (eqb (f.q + f.r) 0) && not (eqb (f.p + f.t) 0)

abbrev pub begins_with_q : Form → Bool
begins_with_q f = leb (f.p + f.q) (f.r + f.t)

abbrev pub turn_letter : Form → Letter
turn_letter f = pick (begins_with_q f) Q P

abbrev pub turn_form : Form → Form
turn_form f = pick (begins_with_q f) (form (f.r - f.p) (f.t - f.q) f.p f.q)
    (form f.r f.t (f.p - f.r) (f.q - f.t))

abbrev pub row_taken : Bool → ℕ → Form → Form
row_taken inverse k f = pick inverse (form f.p f.q (f.r - k * f.p) (f.t - k * f.q))
    (form (f.p - k * f.r) (f.q - k * f.t) f.r f.t)

pub record RowTakes (inverse : Bool) (k : ℕ) (f : Form) : Type 0 where
  pub left : k * pick inverse f.p f.r ≤ pick inverse f.r f.p
  pub right : k * pick inverse f.q f.t ≤ pick inverse f.t f.q

pub record Taken (inverse : Bool) (k : ℕ) (a b : Way) : Type 0 where
  pub rows : form_of b ≡ row_taken inverse k (form_of a)
  pub at : b.at ≡ a.at
  pub count : b.count ≡ a.count
  pub sign : b.sign ≡ a.sign

abbrev pub stored : (start limit n : ℕ) → List ℤ → List ℤ → List ℤ
stored start limit n [] out = out
stored start limit n (z ∷ l) out = stored start limit (suc n) l (pick (ltb n limit) (set out (start + n) z) out)

abbrev pub put_from : ℕ → (l out : List ℤ) → List ℤ
put_from start l out = take start out ++ l ++ drop (start + length l) out

abbrev pub sign_added : ℕ → List ℤ → Letter → ℕ → Bool
sign_added v t x p = letter_sign x · step_sign v t x p

abbrev pub sign_left : ℕ → List ℤ → Bool → ℕ → List Letter → Bool
sign_left v t s p l = s · sign_along (step_s v t) (turn_q v) (sign_added v t) p l

pub record Setting (t : List ℤ) (v : ℕ) (w : List ℕ) (out : List ℤ) (start limit : ℕ) : Type 0 where
  pub prepared : StepTables t v w
  pub room : limit ≤ length out - start

pub record LetterPut (v : ℕ) (t : List ℤ) (start limit : ℕ) (x : Letter) (p n : ℕ) (out : List ℤ) (k : ℕ)
    (out' : List ℤ) : Type 0 where
  pub count : k ≡ n + length (written v t x p)
  pub left : out' ≡ stored start limit n (written v t x p) out

pub record WayStepped (v : ℕ) (t : List ℤ) (start limit : ℕ) (x : Letter) (a : Way) (out : List ℤ) (b : Way)
    (out' : List ℤ) : Type 0 where
  pub at : b.at ≡ goes v t x a.at
  pub count : b.count ≡ a.count + length (written v t x a.at)
  pub left : out' ≡ stored start limit a.count (written v t x a.at) out
  pub sign : b.sign ≡ a.sign · sign_added v t x a.at
  pub is : FrameEquation v t a.at (letter x) (step_sign v t x a.at) (written v t x a.at) b.at

pub record Onward (v : ℕ) (t : List ℤ) (start limit : ℕ) (l : List Letter) (x n : ℕ) (out : List ℤ) (m : List Letter)
    (y k : ℕ) (out' : List ℤ) : Type 0 where
  pub ends_at : ends v t y m ≡ ends v t x l
  pub count : k + length (writes v t y m) ≡ n + length (writes v t x l)
  pub left : stored start limit k (writes v t y m) out' ≡ stored start limit n (writes v t x l) out

abbrev pub OneApart : Form → Type 0
OneApart f = (f.p * f.t ≡ f.q * f.r + 1) ⊎ (f.q * f.r ≡ f.p * f.t + 1)

pub record Sound (v : ℕ) (t : List ℤ) (most : ℕ) (a : Way) : Type 0 where
  pub real : Real v t a.at
  pub apart : OneApart (form_of a)
  pub few : a.count + 2 * total (form_of a) ≤ most

pub record Begun (v : ℕ) (t : List ℤ) (start limit : ℕ) (m : Mat) (x : ℕ) (out : List ℤ) (b : Way)
    (out' : List ℤ) : Type 0 where
  pub sound : Sound v t (2 ^ 63) b
  pub onward : Onward v t start limit (word_of m) x 0 out (rest_of b) b.at b.count out'
  pub sign : sign_left v t b.sign b.at (rest_of b) ≡ sign_left v t (column_sign m) x (word_of m)

pub record Going (v : ℕ) (t : List ℤ) (start limit : ℕ) (a : Way) (out : List ℤ) (b : Way)
    (out' : List ℤ) : Type 0 where
  pub sound : Sound v t (2 ^ 63) b
  pub onward : Onward v t start limit (rest_of a) a.at a.count out (rest_of b) b.at b.count out'
  pub sign : sign_left v t b.sign b.at (rest_of b) ≡ sign_left v t a.sign a.at (rest_of a)

pub record Ended (v : ℕ) (t : List ℤ) (start limit : ℕ) (a : Way) (out : List ℤ) (b : Way)
    (out' : List ℤ) : Type 0 where
  pub onward : Onward v t start limit (rest_of a) a.at a.count out [] b.at b.count out'
  pub sign : b.sign ≡ sign_left v t a.sign a.at (rest_of a)

pub record Walked (v : ℕ) (t : List ℤ) (start limit : ℕ) (m : Mat) (x : ℕ) (out : List ℤ) (b : Way)
    (out' : List ℤ) : Type 0 where
  pub at : b.at ≡ ends v t x (word_of m)
  pub count : b.count ≡ length (writes v t x (word_of m))
  pub left : out' ≡ stored start limit 0 (writes v t x (word_of m)) out
  pub sign : b.sign ≡ matrix_sign m · walk_sign v t x (word_of m)
  pub is : FrameEquation v t x m b.sign (writes v t x (word_of m)) b.at
