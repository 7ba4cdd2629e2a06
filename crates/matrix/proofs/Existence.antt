-- EXISTENCE: each integer matrix of determinant 1 is, up to sign, the value of an alternating word, the one that Euclid's algorithm finds.
--
-- In order: such a matrix is its form with two signs (`shape`); that form is unimodular (`unimodular`), so it is the form of a word
-- (`spelling`); the word has the matrix's signs too, since both have determinant 1; the theorem.
--
-- Why: the entries' signs are those of a word's matrix because a d and b c are one apart; a 0 takes whichever sign it must.
-- Assumes nothing.
use mathlib.Core.Path.{◌≡◌, refl, sym, ◌∙◌, ap, subst}
use mathlib.Core.Logic.{inl, inr}
use mathlib.Core.Bool.{Bool, true, false, false≢true}
use mathlib.Core.List.{List, [], ◌∷◌}
use Prim.Native.Nat.{ℕ, zero, suc, ◌+◌, ◌*◌, ◌<◌}
use native.Mathlib.Omega.{arith}
use native.Mathlib.Decide.{dec_le}
use lib.IntN.{ℤ, pos, negsuc, neg_ℤ, nat_abs, ◌+ℤ◌, ◌-ℤ◌, neg_ℤ-+ℤ, neg_ℤ-neg_ℤ, -ℤ-+ℤ_cancel, +ℤ_comm, pos-ne-negsuc}
use Rattle.matrix.specs.Matrix.{Mat, mat, neg, det, ◌≈◌}
use Rattle.matrix.specs.Words.{Letter, Q, P, value, Alternating}
use Rattle.matrix.specs.Euclid.{Form, sizes, total, swap, agree, word_of}
use Rattle.matrix.specs.Theorems.{Existence}
use Rattle.matrix.proofs.Ring.{Exp, var, ◌⊕◌, ◌⊙◌, ⊖◌, ring, mat_eq}
use Rattle.matrix.proofs.Matrix.{neg_neg, det_neg, det-≈, ≈-sym, ◌∙≈◌}
use Rattle.matrix.proofs.Form.{Tail, stop, last, sq, sp, letters, upper, Unimodular, unimodular_swap, Proper, rows}
use Rattle.matrix.proofs.Form.{down, upper_down, unimodular_down, formed}
use Rattle.matrix.proofs.Sign.{signed, sign, tail_value, head_value_Q, head_value_P, sizes_neg, agree_neg, agree-≈, agree_tail}
use Rattle.matrix.proofs.Sign.{agree_head, same_sign, det_value}
use Rattle.matrix.proofs.Uniqueness.{Word, tail, head-Q, head-P, spelled, word_back, word_of-≈}

-- ---- a matrix of determinant 1 is its form with two signs

-- the product of the two rows
abbrev dot : Form → ℕ
dot f = f.p * f.r + f.q * f.t

pub record Shape (m : Mat) : Type 0 where
  pub head : Bool
  pub column : Bool
  pub is : m ≈ signed head column (sizes m)
  pub right : agree m ≡ head
  pub agreeing : head ≡ true → 0 < dot (sizes m)

as_tail : (m : Mat) (s : Bool) → m ≈ signed false s (sizes m) → Shape m
as_tail m s e = record { head = false; column = s; is = e; right = agree-≈ e ∙ agree_tail s (sizes m); agreeing = λ t. absurd (false≢true t) }

as_head : (m : Mat) (s : Bool) → m ≈ signed true s (sizes m) → 0 < dot (sizes m) → Shape m
as_head m s e h = record { head = true; column = s; is = e; right = agree-≈ e ∙ agree_head s (sizes m) h; agreeing = λ t. h }

-- a difference and a negative sum of naturals that are 1
less_one : (x y : ℕ) → pos x -ℤ pos y ≡ pos 1 → x ≡ y + 1
less_one x y e = ap nat_abs (sym (-ℤ-+ℤ_cancel (pos x) (pos y)) ∙ ap (λ (z : ℤ). z +ℤ pos y) e) ∙ omega arith

not_one : (x : ℕ) → neg_ℤ (pos x) ≡ pos 1 → ⊥
not_one zero e = let z : ◌≡◌ {A = ℕ} 0 1 = ap nat_abs e in omega arith
not_one (suc x) e = pos-ne-negsuc 1 x (sym e)

never_one : (x y : ℕ) → neg_ℤ (pos x) -ℤ pos y ≡ pos 1 → ⊥
never_one x y e = not_one (x + y) (neg_ℤ-+ℤ (pos x) (pos y) ∙ e)

sum_one : (x y : ℕ) → pos x -ℤ neg_ℤ (pos y) ≡ pos 1 → x + y ≡ 1
sum_one x y e = ap nat_abs (ap (λ (z : ℤ). pos x +ℤ z) (sym (neg_ℤ-neg_ℤ (pos y))) ∙ e)

more_one : (x y : ℕ) → neg_ℤ (pos x) -ℤ neg_ℤ (pos y) ≡ pos 1 → y ≡ x + 1
more_one x y e = less_one y x (+ℤ_comm (pos y) (neg_ℤ (pos x)) ∙ ap (λ (z : ℤ). neg_ℤ (pos x) +ℤ z) (sym (neg_ℤ-neg_ℤ (pos y))) ∙ e)

-- (p q; r t)
all_positive : (p q r t : ℕ) → p * t ≡ q * r + 1 → Shape (mat (pos p) (pos q) (pos r) (pos t))
all_positive p zero zero t e = as_tail (mat (pos p) (pos 0) (pos 0) (pos t)) false (inl (mat_eq refl refl refl (sym (neg_ℤ-neg_ℤ (pos t)))))
all_positive p (suc q) zero zero e = absurd (omega arith)
all_positive p (suc q) zero (suc t) e = as_head (mat (pos p) (pos (suc q)) (pos 0) (pos (suc t))) true (inl refl) (omega arith)
all_positive zero q (suc r) t e = absurd (omega arith)
all_positive (suc p) q (suc r) t e = as_head (mat (pos (suc p)) (pos q) (pos (suc r)) (pos t)) true (inl refl) (omega arith)

-- (p q; -r t)
low_left : (p q r t : ℕ) → p * t + q * suc r ≡ 1 → Shape (mat (pos p) (pos q) (negsuc r) (pos t))
unfolding neg
low_left p zero r t e = as_tail (mat (pos p) (pos 0) (negsuc r) (pos t)) false (inl (mat_eq refl refl refl (sym (neg_ℤ-neg_ℤ (pos t)))))
low_left p (suc q) r zero e = as_tail (mat (pos p) (pos (suc q)) (negsuc r) (pos 0)) true (inl refl)
low_left zero (suc q) r (suc t) e = as_head (mat (pos 0) (pos (suc q)) (negsuc r) (pos (suc t))) false (inr refl) (omega arith)
low_left (suc p) (suc q) r (suc t) e = absurd (omega arith)

-- (p -q; r t)
up_right : (p q r t : ℕ) → p * t + suc q * r ≡ 1 → Shape (mat (pos p) (negsuc q) (pos r) (pos t))
unfolding neg
up_right p q zero t e = as_tail (mat (pos p) (negsuc q) (pos 0) (pos t)) false (inl (mat_eq refl refl refl (sym (neg_ℤ-neg_ℤ (pos t)))))
up_right zero q (suc r) t e = as_tail (mat (pos 0) (negsuc q) (pos (suc r)) (pos t)) true (inr (mat_eq refl refl refl (sym (neg_ℤ-neg_ℤ (pos t)))))
up_right (suc p) q (suc r) zero e = as_head (mat (pos (suc p)) (negsuc q) (pos (suc r)) (pos 0)) false (inl refl) (omega arith)
up_right (suc p) q (suc r) (suc t) e = absurd (omega arith)

-- the first entry is a natural
upright : (p : ℕ) (b c d : ℤ) → det (mat (pos p) b c d) ≡ pos 1 → Shape (mat (pos p) b c d)
unfolding det
upright p (pos q) (pos r) (pos t) e = all_positive p q r t (less_one (p * t) (q * r) e)
upright p (pos q) (pos r) (negsuc t) e = absurd (never_one (p * suc t) (q * r) e)
upright p (pos q) (negsuc r) (pos t) e = low_left p q r t (sum_one (p * t) (q * suc r) e)
upright p (pos q) (negsuc r) (negsuc t) e = as_tail (mat (pos p) (pos q) (negsuc r) (negsuc t)) true (inl refl)
upright p (negsuc q) (pos r) (pos t) e = up_right p q r t (sum_one (p * t) (suc q * r) e)
upright p (negsuc q) (pos r) (negsuc t) e = as_head (mat (pos p) (negsuc q) (pos r) (negsuc t)) false (inl refl) (omega arith)
upright p (negsuc q) (negsuc r) (pos t) e = as_tail (mat (pos p) (negsuc q) (negsuc r) (pos t)) false (inl (mat_eq refl refl refl (sym (neg_ℤ-neg_ℤ (pos t)))))
upright p (negsuc q) (negsuc r) (negsuc t) e = absurd (never_one (p * suc t) (suc q * suc r) e)

shape_neg : (m : Mat) → Shape (neg m) → Shape m
shape_neg m h = record {
  head = h.head;
  column = h.column;
  is = inr (sym (neg_neg m)) ∙≈ h.is ∙≈ inl (ap (signed h.head h.column) (sizes_neg m));
  right = sym (agree_neg m) ∙ h.right;
  agreeing = λ t. subst (λ (f : Form). 0 < dot f) (sizes_neg m) (h.agreeing t);
}

shape_at : (a b c d : ℤ) → det (mat a b c d) ≡ pos 1 → Shape (mat a b c d)
unfolding neg
shape_at (pos p) b c d e = upright p b c d e
shape_at (negsuc p) b c d e = shape_neg (mat (negsuc p) b c d) (upright (suc p) (neg_ℤ b) (neg_ℤ c) (neg_ℤ d) (det_neg (mat (negsuc p) b c d) ∙ e))

pub shape : (m : Mat) → det m ≡ pos 1 → Shape m
shape m e = shape_at m.a m.b m.c m.d e

-- ---- its form is unimodular

abbrev env : Form → List ℤ
env f = pos f.p ∷ pos f.q ∷ pos f.r ∷ pos f.t ∷ []

abbrev p·t : Exp
p·t = var 0 ⊙ var 3

abbrev q·r : Exp
q·r = var 1 ⊙ var 2

pub unimodular : (k s : Bool) (f : Form) → det (signed k s f) ≡ pos 1 → Unimodular f
unfolding det
unimodular true true f e = inl (less_one (f.p * f.t) (f.q * f.r) e)
unimodular true false f e = inr (less_one (f.q * f.r) (f.p * f.t) (ring (env f) (q·r ⊕ ⊖ p·t) (var 0 ⊙ ⊖ var 3 ⊕ ⊖ (⊖ var 1 ⊙ var 2)) tt ∙ e))
unimodular false true f e = inr (less_one (f.q * f.r) (f.p * f.t) (ring (env f) (q·r ⊕ ⊖ p·t) (var 0 ⊙ ⊖ var 3 ⊕ ⊖ (var 1 ⊙ ⊖ var 2)) tt ∙ e))
unimodular false false f e = inl (less_one (f.p * f.t) (f.q * f.r) (ring (env f) (p·t ⊕ ⊖ q·r) (var 0 ⊙ ⊖ ⊖ var 3 ⊕ ⊖ (⊖ var 1 ⊙ ⊖ var 2)) tt ∙ e))

-- ---- it is the form of a word

record Spelling (k : Bool) (f : Form) : Type 0 where
  word : Word
  column : Bool
  is : value (spelled word) ≈ signed k column f

spell_tail : (f : Form) → Unimodular f → Spelling false f
spell_tail f u =
    let w = formed (total f) f u (omega arith) in
    record { word = tail w.word; column = sign w.word; is = tail_value w.word ∙≈ inl (ap (signed false (sign w.word)) w.is) }

-- the rows agree somewhere, so the form is neither that of the identity nor that of S
proper : (f : Form) → 0 < dot f → Proper f
proper f h = record { not_one = one f.p f.q f.r f.t h; not_S = one f.q f.p f.t f.r (omega arith) }
  where
    one : (p q r t : ℕ) → 0 < p * r + q * t → 0 < q + r
    one p zero zero t h = omega arith
    one p zero (suc r) t h = omega arith
    one p (suc q) r t h = omega arith

spell_head : (f : Form) → Unimodular f → Proper f → Spelling true f
spell_head f u k =
    let u' = unimodular_swap f u in
    elim (dec_le (f.p + f.q) (f.r + f.t)) [
      | yes y ↦ let m = rows (swap f) u' (record { not_one = omega arith; not_S = omega arith }) y in
          let w = formed (total (down (swap f))) (down (swap f)) (unimodular_down (swap f) m u') (omega arith) in
          record {
            word = head-Q w.word;
            column = sign w.word;
            is = head_value_Q w.word ∙≈ inl (ap (λ (g : Form). signed true (sign w.word) (swap g)) (ap upper w.is ∙ upper_down (swap f) m));
          }
      | no y ↦ let m = rows f u k (omega arith) in
          let w = formed (total (swap (down f))) (swap (down f)) (unimodular_swap (down f) (unimodular_down f m u)) (omega arith) in
          record {
            word = head-P w.word;
            column = sign w.word;
            is = head_value_P w.word ∙≈ inl (ap (signed true (sign w.word)) (ap (λ (g : Form). upper (swap g)) w.is ∙ upper_down f m));
          }
    ]

-- ---- words made of blocks alternate

abbrev After : Letter → Tail → Type 0
After x w = Alternating (x ∷ letters w)

after : (w : Tail) → After Q w × After P w
after stop = (tt, tt)
after last = ((tt, tt), (tt, tt))
after (sq w) = let k = after w in ((tt, (tt, k.0)), (tt, (tt, k.0)))
after (sp w) = let k = after w in ((tt, (tt, k.1)), (tt, (tt, k.1)))

pub alternates : (w : Word) → Alternating (spelled w)
alternates (tail stop) = tt
alternates (tail last) = tt
alternates (tail (sq w)) = (after (sq w)).0.1
alternates (tail (sp w)) = (after (sp w)).0.1
alternates (head-Q w) = (after w).0
alternates (head-P w) = (after w).1

-- ---- the theorem

spelling : (k : Bool) (f : Form) → (k ≡ true → 0 < dot f) → Unimodular f → Spelling k f
spelling true f h u = spell_head f u (proper f (h refl))
spelling false f h u = spell_tail f u

-- the word that was found has the matrix for its value
found : (m : Mat) (e : det m ≡ pos 1) (h : Shape m) (w : Spelling h.head (sizes m)) → value (spelled w.word) ≈ m
found m e h w =
    let same = same_sign h.head w.column h.column (sizes m) (sym (det-≈ w.is) ∙ det_value (spelled w.word)) (sym (det-≈ h.is) ∙ e) in
    w.is ∙≈ inl (ap (λ (s : Bool). signed h.head s (sizes m)) same) ∙≈ ≈-sym h.is

pub existence : Existence
existence m e =
    let h = shape m e in
    let w = spelling h.head (sizes m) h.agreeing (unimodular h.head h.column (sizes m) (sym (det-≈ h.is) ∙ e)) in
    let v = found m e h w in
    let same : word_of m ≡ spelled w.word = word_of-≈ (≈-sym v) ∙ word_back w.word in
    (subst Alternating (sym same) (alternates w.word), subst (λ (l : List Letter). value l ≈ m) (sym same) v)
