-- The lower rows of frames: they tell the sign of a matrix that is known up to sign.
--
-- In order: a matrix times S, Q and Q⁻¹, row by row (`S_row`, `Q_row`, `P_row`); the lower row of an edge that is read from left to right
-- (`Rightward`), and of one that is read from right to left (`Leftward`); S, Q and Q⁻¹ make a second of a first (`rightward_S` and the others);
-- two matrices with rows that are read from right to left are the same if they are so up to sign (`settle`); the two sides of an edge are not both
-- read in the same way (`not_rightward`, `not_leftward`).
--
-- Why: read from left to right the lower row has two denominators, which are not negative; the other way it has one of them and minus the other.
-- Assumes nothing.
use mathlib.Core.Path.{◌≡◌, refl, sym, ◌∙◌, ap}
use mathlib.Core.Logic.{inl, inr}
use mathlib.Core.Bool.{Bool}
use mathlib.Core.List.{[]}
use Prim.Native.Nat.{ℕ, ◌+◌, ◌<◌}
use native.Mathlib.Omega.{arith}
use lib.IntN.{ℤ, pos, neg_ℤ, ◌+ℤ◌, neg_ℤ-neg_ℤ}
use Rattle.matrix.specs.Matrix.{Mat, mat, ◌⊗◌, neg, adj, mat_s, mat_q, mat_p, ◌≈◌}
use Rattle.matrix.proofs.Matrix.{with, ≈-sym, ◌∙≈◌}
use Rattle.matrix.proofs.Ring.{var, ◌⊕◌, ⊖◌, lit, const, ◌⊛◌, ∼◌, block, ring_m}
use Rattle.polygon.proofs.Mediant.{neg_pos}
use Rattle.signs.specs.Sign.{with_sign}
use Rattle.signs.proofs.Sign.{sign-≈}

-- ---- rows times letters

S_row : (m : Mat) → m ⊗ mat_s ≡ mat m.b (neg_ℤ m.a) m.d (neg_ℤ m.c)
unfolding mat_s
S_row m = ring_m (with m []) (block 0 ⊛ const mat_s) (lit (var 1) (⊖ var 0) (var 3) (⊖ var 2)) tt

Q_row : (m : Mat) → m ⊗ mat_q ≡ mat m.b (neg_ℤ (m.a +ℤ m.b)) m.d (neg_ℤ (m.c +ℤ m.d))
unfolding mat_q
Q_row m = ring_m (with m []) (block 0 ⊛ const mat_q) (lit (var 1) (⊖ (var 0 ⊕ var 1)) (var 3) (⊖ (var 2 ⊕ var 3))) tt

P_row : (m : Mat) → neg (m ⊗ mat_p) ≡ mat (m.a +ℤ m.b) (neg_ℤ m.a) (m.c +ℤ m.d) (neg_ℤ m.c)
unfolding adj mat_q mat_p
P_row m = ring_m (with m []) (∼ (block 0 ⊛ const mat_p)) (lit (var 0 ⊕ var 1) (⊖ var 0) (var 2 ⊕ var 3) (⊖ var 2)) tt

-- ---- the two ways to read an edge

-- from left to right: the denominators of the right end, which is positive, and of the left one
pub record Rightward (m : Mat) : Type 0 where
  pub right : ℕ
  pub left : ℕ
  pub is_right : m.c ≡ pos right
  pub is_left : m.d ≡ pos left
  pub some : 0 < right

-- from right to left: the denominator of the left end, and minus that of the right one, which is positive
pub record Leftward (m : Mat) : Type 0 where
  pub left : ℕ
  pub right : ℕ
  pub is_left : m.c ≡ pos left
  pub is_right : m.d ≡ neg_ℤ (pos right)
  pub some : 0 < right

pub rightward_S : (m : Mat) → Rightward m → Leftward (m ⊗ mat_s)
rightward_S m l = record {
  left = l.left;
  right = l.right;
  is_left = ap (λ (x : Mat). x.c) (S_row m) ∙ l.is_left;
  is_right = ap (λ (x : Mat). x.d) (S_row m) ∙ ap neg_ℤ l.is_right;
  some = l.some;
}

-- the denominator of the mediant
sum_is : (m : Mat) (l : Rightward m) → m.c +ℤ m.d ≡ pos (l.right + l.left)
sum_is m l = ap (λ (x : ℤ). x +ℤ m.d) l.is_right ∙ ap (λ (x : ℤ). pos l.right +ℤ x) l.is_left

-- from the middle vertex of a triangle to the left one
pub rightward_Q : (m : Mat) → Rightward m → Leftward (m ⊗ mat_q)
rightward_Q m l = record {
  left = l.left;
  right = l.right + l.left;
  is_left = ap (λ (x : Mat). x.c) (Q_row m) ∙ l.is_left;
  is_right = ap (λ (x : Mat). x.d) (Q_row m) ∙ ap neg_ℤ (sum_is m l);
  some = let s = l.some in omega arith;
}

-- from the right vertex to the middle one, with minus
pub rightward_P : (m : Mat) → Rightward m → Leftward (neg (m ⊗ mat_p))
rightward_P m l = record {
  left = l.right + l.left;
  right = l.right;
  is_left = ap (λ (x : Mat). x.c) (P_row m) ∙ sum_is m l;
  is_right = ap (λ (x : Mat). x.d) (P_row m) ∙ ap neg_ℤ l.is_right;
  some = l.some;
}

-- from 1/0 to the last vertex, with minus
pub last_leftward : (a b : ℤ) (n : ℕ) → 0 < n → Leftward (neg (mat a b (pos 0) (pos n)))
unfolding neg
last_leftward a b n h = record { left = 0; right = n; is_left = refl; is_right = refl; some = h }

-- turned round, what was read from right to left is read from left to right
leftward_S : (m : Mat) → Leftward m → Rightward (neg (m ⊗ mat_s))
unfolding neg
leftward_S m r = record {
  right = r.right;
  left = r.left;
  is_right = ap (λ (x : Mat). neg_ℤ x.c) (S_row m) ∙ ap neg_ℤ r.is_right ∙ neg_ℤ-neg_ℤ (pos r.right);
  is_left = ap (λ (x : Mat). neg_ℤ x.d) (S_row m) ∙ neg_ℤ-neg_ℤ m.c ∙ r.is_left;
  some = r.some;
}

-- ---- the sign of what is known up to sign

no_sign : (x y : ℕ) → pos x ≡ neg_ℤ (pos y) → 0 < y → ⊥
no_sign x y e h = omega (arith, neg_pos y x (sym e))

lower : (m n : Mat) → m ≡ neg n → (m.c ≡ neg_ℤ n.c) × (m.d ≡ neg_ℤ n.d)
unfolding neg
lower m n e = (ap (λ (x : Mat). x.c) e, ap (λ (x : Mat). x.d) e)

same_leftward : (m n : Mat) → Leftward m → Leftward n → m ≈ n → m ≡ n
same_leftward m n a b (inl e) = e
same_leftward m n a b (inr e) =
    let z : pos b.right ≡ neg_ℤ (pos a.right) =
    sym (sym a.is_right ∙ (lower m n e).1 ∙ ap neg_ℤ b.is_right ∙ neg_ℤ-neg_ℤ (pos b.right)) in
    absurd (no_sign b.right a.right z a.some)

pub settle : (s : Bool) (m n : Mat) → Leftward m → Leftward (with_sign s n) → m ≈ n → m ≡ with_sign s n
settle s m n a b e = same_leftward m (with_sign s n) a b (e ∙≈ ≈-sym (sign-≈ s n))

-- a row is not read in both ways, whatever its sign
apart : (m n : Mat) → Leftward m → Rightward n → m ≈ n → ⊥
apart m n a b (inl e) = no_sign b.left a.right (sym b.is_left ∙ ap (λ (x : Mat). x.d) (sym e) ∙ a.is_right) a.some
apart m n a b (inr e) = no_sign a.left b.right (sym a.is_left ∙ (lower m n e).0 ∙ ap neg_ℤ b.is_right) b.some

pub not_rightward : (m n : Mat) → Rightward m → Rightward n → m ⊗ mat_s ≈ n → ⊥
not_rightward m n a b e = apart (m ⊗ mat_s) n (rightward_S m a) b e

pub not_leftward : (m n : Mat) → Leftward m → Leftward n → m ⊗ mat_s ≈ n → ⊥
not_leftward m n a b e = apart n (neg (m ⊗ mat_s)) b (leftward_S m a) (≈-sym e ∙≈ ≈-sym (inr refl))
