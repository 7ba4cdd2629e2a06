-- UNIQUENESS: two alternating words with the same value up to sign are the same word.
--
-- In order: each alternating word is a tail, or a power of Q before a tail (`view`); the word that Euclid's algorithm finds for the
-- value of an alternating word is that word (`word_back`); it depends on the matrix up to sign alone (`word_of-≈`); the theorem.
--
-- Why: `word_of` undoes `value`, so `value` sends different alternating words to different matrices.
-- Assumes nothing.
use mathlib.Core.Path.{◌≡◌, refl, sym, ◌∙◌, ap}
use mathlib.Core.Logic.{◌↔◌}
use mathlib.Core.Bool.{Bool, true, false}
use mathlib.Core.List.{List, [], ◌∷◌}
use Prim.Native.Nat.{ℕ, zero, suc, ◌+◌, ◌*◌, ◌<◌}
use native.Mathlib.Omega.{arith}
use Rattle.matrix.specs.Matrix.{Mat, ◌≈◌}
use Rattle.matrix.specs.Words.{Letter, S, Q, P, value, Alternating}
use Rattle.matrix.specs.Euclid.{Form, total, swap, agree, tail_of, spell, word_of}
use Rattle.matrix.specs.Theorems.{Uniqueness}
use Rattle.matrix.proofs.Form.{Tail, stop, last, sq, sp, letters, upper, lower, tail_form, whole, down_upper, turn_Q, turn_P, read_back}
use Rattle.matrix.proofs.Sign.{signed, sign, tail_value, head_value_Q, head_value_P, sizes-≈, sizes_signed, agree-≈, agree_tail, agree_head}

-- ---- alternating words as blocks

pub data Word : Type 0 where
  tail head-Q head-P : Tail → Word

abbrev pub spelled : Word → List Letter
spelled (tail w) = letters w
spelled (head-Q w) = Q ∷ letters w
spelled (head-P w) = P ∷ letters w

-- one power of Q may stand for the other
pub other : (l : List Letter) → Alternating (Q ∷ l) ↔ Alternating (P ∷ l)
other [] = (λ a. a, λ a. a)
other (S ∷ l) = (λ a. a, λ a. a)
other (Q ∷ l) = (λ a. absurd a.0, λ a. absurd a.0)
other (P ∷ l) = (λ a. absurd a.0, λ a. absurd a.0)

record TailOf (l : List Letter) : Type 0 where
  word : Tail
  is : letters word ≡ l

-- what may follow a power of Q
follow : (l : List Letter) → Alternating (Q ∷ l) → TailOf l
follow [] a = record { word = stop; is = refl }
follow (S ∷ []) a = record { word = last; is = refl }
follow (S ∷ S ∷ l) a = absurd a.1.0
follow (S ∷ Q ∷ l) a = let k = follow l a.1.1 in record { word = sq k.word; is = ap (λ (r : List Letter). S ∷ Q ∷ r) k.is }
follow (S ∷ P ∷ l) a =
    let k = follow l ((other l).1 a.1.1) in
    record { word = sp k.word; is = ap (λ (r : List Letter). S ∷ P ∷ r) k.is }
follow (Q ∷ l) a = absurd a.0
follow (P ∷ l) a = absurd a.0

pub record Spelled (l : List Letter) : Type 0 where
  pub word : Word
  pub is : spelled word ≡ l

pub view : (l : List Letter) → Alternating l → Spelled l
view [] a = record { word = tail stop; is = refl }
view (S ∷ l) a = let k = follow (S ∷ l) (tt, a) in record { word = tail k.word; is = k.is }
view (Q ∷ l) a = let k = follow l a in record { word = head-Q k.word; is = ap (λ (r : List Letter). Q ∷ r) k.is }
view (P ∷ l) a = let k = follow l ((other l).1 a) in record { word = head-P k.word; is = ap (λ (r : List Letter). P ∷ r) k.is }

-- ---- a word is read back from its value

pub spell_eq : {h h' : Bool} {f f' : Form} → h ≡ h' → f ≡ f' → spell h f ≡ spell h' f'
spell_eq e g = λ i. spell (e i) (g i)

pub word_of-≈ : {m n : Mat} → m ≈ n → word_of m ≡ word_of n
word_of-≈ e = spell_eq (agree-≈ e) (sizes-≈ e)

-- the word of a matrix that is a signed form up to sign
pub word_of_signed : (m : Mat) (k s : Bool) (f : Form) → m ≈ signed k s f → agree (signed k s f) ≡ k → word_of m ≡ spell k f
word_of_signed m k s f e a = spell_eq (agree-≈ e ∙ a) (sizes-≈ e ∙ sizes_signed k s f)

squares : (x y : ℕ) → 0 < x + y → 0 < x * x + y * y
squares zero zero h = omega arith
squares zero (suc y) h = omega arith
squares (suc x) y h = omega arith

pub word_back : (w : Word) → word_of (value (spelled w)) ≡ spelled w
word_back (tail w) =
    let f = tail_form w in
    word_of_signed (value (letters w)) false (sign w) f (tail_value w) (agree_tail (sign w) f) ∙ read_back w (total f) (omega arith)
word_back (head-Q w) =
    let f = tail_form w in
    let k = whole w in
    word_of_signed (value (Q ∷ letters w)) true (sign w) (swap (upper f)) (head_value_Q w)
    (agree_head (sign w) (swap (upper f)) (omega (arith, squares f.r f.t k.bottom)))
    ∙ turn_Q (tail_of (total (swap (upper f)))) (swap (upper f)) (omega arith)
    ∙ ap (λ (l : List Letter). Q ∷ l) (ap (tail_of (total (swap (upper f)))) (down_upper f) ∙ read_back w (total (swap (upper f))) (omega arith))
word_back (head-P w) =
    let f = tail_form w in
    let k = whole w in
    word_of_signed (value (P ∷ letters w)) true (sign w) (swap (lower f)) (head_value_P w)
    (agree_head (sign w) (swap (lower f)) (omega (arith, squares f.p f.q k.top)))
    ∙ turn_P (tail_of (total (swap (lower f)))) (swap (lower f)) (omega arith)
    ∙ ap (λ (l : List Letter). P ∷ l) (ap (λ (g : Form). tail_of (total (swap (lower f))) (swap g)) (down_upper (swap f))
    ∙ read_back w (total (swap (lower f))) (omega arith))

pub read_word : (l : List Letter) → Alternating l → word_of (value l) ≡ l
read_word l a = let k = view l a in ap (λ (r : List Letter). word_of (value r)) (sym k.is) ∙ word_back k.word ∙ k.is

-- ---- the theorem

pub uniqueness : Uniqueness
uniqueness u w a b e = sym (read_word u a) ∙ word_of-≈ e ∙ read_word w b
