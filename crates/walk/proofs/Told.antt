-- The sign, step by step: what is told so far times what is left stays the same.
--
-- In order: one step (`sign_step`), and the signs of the letters with those of the steps (`sign_merged`); the sign of a column, as the code
-- finds it (`column_is`); one letter's sign (`sign_S`, `sign_turn`), and that of
-- two (`sign_block`).
-- Assumes nothing.
use mathlib.Core.Path.{◌≡◌, refl, sym, ◌∙◌, ap}
use mathlib.Core.Bool.{Bool, true, false, not}
use mathlib.Core.List.{List, [], ◌∷◌}
use Prim.Native.Nat.{ℕ, zero, suc}
use native.Mathlib.Omega.{arith}
use lib.IntN.{ℤ, pos, negsuc}
use lib.Signed.{lt_z}
use borrow.Author.Tests.{lt-ltb, le-ltb}
use Rattle.matrix.specs.Matrix.{Mat}
use Rattle.matrix.specs.Words.{Letter, S, Q, P}
use Rattle.matrix.specs.Euclid.{positive, agree, word_of}
use Rattle.basics.specs.Choice.{pick}
use Rattle.coset.specs.Positions.{goes, ◌·◌, letter_sign, word_sign, entry_sign, column_sign, matrix_sign, step_sign, walk_sign}
use Rattle.walk.specs.Inner.Way.{sign_added, sign_left, WayStepped}
use Rattle.walk.specs.declared.Way.{Way}

-- ---- products

pub ·-assoc : (s r q : Bool) → s · r · q ≡ s · (r · q)
·-assoc true r q = refl
·-assoc false true q = refl
·-assoc false false true = refl
·-assoc false false false = refl

-- (a b)(c d) is (a c)(b d)
·-middle : (a b c d : Bool) → a · b · (c · d) ≡ a · c · (b · d)
·-middle true b true d = refl
·-middle true true false d = refl
·-middle true false false true = refl
·-middle true false false false = refl
·-middle false true true d = refl
·-middle false true false true = refl
·-middle false true false false = refl
·-middle false false true true = refl
·-middle false false true false = refl
·-middle false false false true = refl
·-middle false false false false = refl

-- ---- one step

pub sign_step : {v : ℕ} {t : List ℤ} {start limit : ℕ} {x : Letter} {a b : Way} {out out' : List ℤ} (l : List Letter)
    → WayStepped v t start limit x a out b out' → sign_left v t b.sign b.at l ≡ sign_left v t a.sign a.at (x ∷ l)
sign_step {v} {t} {x} {a} {b} l s =
    let q = goes v t x a.at in
    ap (λ (y : ℕ). sign_left v t b.sign y l) s.at ∙ ap (λ (r : Bool). sign_left v t r q l) s.sign
    ∙ ·-assoc a.sign (sign_added v t x a.at) (sign_left v t true q l)

-- ---- the signs of the letters and those of the steps

module _ (v : ℕ) (t : List ℤ) where
  merged : (p : ℕ) (l : List Letter) → sign_left v t true p l ≡ word_sign l · walk_sign v t p l
  merged p [] = refl
  merged p (x ∷ l) =
      ap (λ (r : Bool). letter_sign x · step_sign v t x p · r) (merged (goes v t x p) l)
      ∙ ·-middle (letter_sign x) (step_sign v t x p) (word_sign l) (walk_sign v t (goes v t x p) l)

  pub sign_merged : (m : Mat) (p : ℕ) → sign_left v t (column_sign m) p (word_of m) ≡ matrix_sign m · walk_sign v t p (word_of m)
  unfolding matrix_sign
  sign_merged m p =
      ap (λ (r : Bool). column_sign m · r) (merged p (word_of m)) ∙ sym (·-assoc (column_sign m) (word_sign (word_of m)) (walk_sign v t p (word_of m)))

-- ---- one letter

module _ (v : ℕ) (t : List ℤ) (s : Bool) (p : ℕ) where
  pub sign_S : (r x : Bool) → x ≡ step_sign v t S p → r ≡ s · x → not r ≡ s · sign_added v t S p
  sign_S r x e f = ap not (f ∙ ap (λ (y : Bool). s · y) e) ∙ out s (step_sign v t S p)
    where
      out : (a b : Bool) → not (a · b) ≡ a · not b
      out true b = refl
      out false b = refl

  -- Q, or Q⁻¹ where `inverse` holds, which adds a minus
  pub sign_turn : (inverse : Bool) → s · not inverse ≡ s · sign_added v t (pick inverse P Q) p
  unfolding step_sign
  sign_turn true = refl
  sign_turn false = refl

-- S and a power of Q in one stride
pub sign_block : (v : ℕ) (t : List ℤ) (s : Bool) (p q : ℕ) (r x inverse : Bool) → x ≡ step_sign v t S p → r ≡ s · x
    → r · inverse ≡ s · sign_added v t S p · sign_added v t (pick inverse P Q) q
sign_block v t s p q r x inverse e f =
    both r inverse ∙ ap (λ (y : Bool). y · not inverse) (sign_S v t s p r x e f) ∙ sign_turn v t (s · sign_added v t S p) q inverse
  where
    both : (a b : Bool) → a · b ≡ not a · not b
    both true true = refl
    both true false = refl
    both false true = refl
    both false false = refl

-- ---- the sign of the first column

above_is : (x : ℤ) → lt_z (pos 0) x ≡ positive x
above_is (pos zero) = le-ltb 0 0 (omega arith)
above_is (pos (suc n)) = lt-ltb 0 (suc n) (omega arith)
above_is (negsuc n) = refl

pub column_is : (m : Mat) (x y : ℤ) (rows below r : Bool) → x ≡ m.a → y ≡ m.c → rows ≡ agree m → below ≡ rows · lt_z (pos 0) y → r ≡ entry_sign x below
    → r ≡ column_sign m
column_is m x y rows below r a c h b e =
    e ∙ ap (λ (z : ℤ). entry_sign z below) a
    ∙ ap (entry_sign m.a) (b ∙ ap (λ (s : Bool). s · lt_z (pos 0) y) h ∙ ap (λ (s : Bool). agree m · s) (above_is y ∙ ap positive c))
