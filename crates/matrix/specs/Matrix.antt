-- Two by two matrices over the integers, and equality up to sign.
--
--   Mat, mat a b c d        the matrix (a b; c d): first row a b, second row c d
--   m ⊗ n                   the product
--   𝟙                       the identity
--   neg m                   the negative of each entry
--   adj m                   the adjugate (d -b; -c a), which is the inverse where the determinant is 1
--   det m                   the determinant a d - b c
--   mat_s mat_t mat_r mat_q  S = (0 -1; 1 0), T = (1 1; 0 1), R = S T, Q = (0 -1; 1 -1)
--   mat_p                   P = Q⁻¹ = (-1 1; -1 0)
--   m ≈ n                   equality up to sign: m is n or the negative of n
--   nth l k                 the entry k of a list, counted from 0
--   of_list, to_list          a matrix as the array of four numbers in which it travels, row by row
--
-- The operations are shut (`unfoldable`): their laws are in proofs/Matrix.antt.
use Rattle.std.specs.Prelude.{◌≡◌, ◌⊎◌, List, [], ◌∷◌, ℕ, get_or, ℤ, pos, negsuc, neg_ℤ, ◌+ℤ◌, ◌-ℤ◌, ◌*ℤ◌}

pub record Mat : Type 0 where
  pub a : ℤ
  pub b : ℤ
  pub c : ℤ
  pub d : ℤ

abbrev pub mat : ℤ → ℤ → ℤ → ℤ → Mat
mat a b c d = record { a = a; b = b; c = c; d = d }

infixl 7 ◌⊗◌
unfoldable pub ◌⊗◌ : Mat → Mat → Mat
m ⊗ n = mat (m.a *ℤ n.a +ℤ m.b *ℤ n.c) (m.a *ℤ n.b +ℤ m.b *ℤ n.d) (m.c *ℤ n.a +ℤ m.d *ℤ n.c)
    (m.c *ℤ n.b +ℤ m.d *ℤ n.d)

unfoldable pub 𝟙 : Mat
𝟙 = mat (pos 1) (pos 0) (pos 0) (pos 1)

unfoldable pub neg : Mat → Mat
neg m = mat (neg_ℤ m.a) (neg_ℤ m.b) (neg_ℤ m.c) (neg_ℤ m.d)

unfoldable pub adj : Mat → Mat
adj m = mat m.d (neg_ℤ m.b) (neg_ℤ m.c) m.a

unfoldable pub det : Mat → ℤ
det m = m.a *ℤ m.d -ℤ m.b *ℤ m.c

unfoldable pub mat_s : Mat
mat_s = mat (pos 0) (negsuc 0) (pos 1) (pos 0)

unfoldable pub mat_t : Mat
mat_t = mat (pos 1) (pos 1) (pos 0) (pos 1)

unfoldable pub mat_r : Mat
mat_r = mat_s ⊗ mat_t

unfoldable pub mat_q : Mat
mat_q = mat (pos 0) (negsuc 0) (pos 1) (negsuc 0)

unfoldable pub mat_p : Mat
mat_p = adj mat_q

infix 4 ◌≈◌
abbrev pub ◌≈◌ : Mat → Mat → Type 0
m ≈ n = (m ≡ n) ⊎ (m ≡ neg n)

abbrev pub nth : List ℤ → ℕ → ℤ
nth l k = get_or l k (pos 0)

abbrev pub of_list : List ℤ → Mat
of_list l = mat (nth l 0) (nth l 1) (nth l 2) (nth l 3)

abbrev pub to_list : Mat → List ℤ
to_list m = m.a ∷ m.b ∷ m.c ∷ m.d ∷ []
