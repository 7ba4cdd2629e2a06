-- The edges of a triangle, and the sides: the frames send 0 and infinity to vertices of the polygon.
--
-- In order: the columns of a matrix times Q and Q⁻¹ (`times_Q`, `times_P`); vertices by number (`vertex_is`); a side (`side_edge`); the triangle
-- under a chord (`farey`).
--
-- Why: a chord's frame has the chord's ends for columns, and their sum is the mediant. Times Q its columns are the left end and minus the mediant,
-- times Q⁻¹ minus the mediant and the right end.
-- Assumes nothing.
use mathlib.Core.Path.{◌≡◌, refl, sym, ◌∙◌, ap}
use mathlib.Core.Logic.{inl, inr}
use mathlib.Core.Bool.{Bool}
use mathlib.Core.List.{List, [], ◌∷◌}
use Prim.Native.Nat.{ℕ, zero, suc, ◌+◌, ◌*◌, ◌≤◌}
use native.Mathlib.Omega.{arith}
use lib.IntN.{ℤ, pos, neg_ℤ, ◌+ℤ◌}
use borrow.Author.Tests.{lt-ltb}
use Rattle.matrix.specs.Matrix.{Mat, mat, ◌⊗◌, adj, mat_q, mat_p}
use Rattle.basics.specs.Choice.{pick}
use Rattle.matrix.proofs.Ring.{var, ◌⊕◌, ⊖◌, lit, const, ◌⊛◌, ring_m}
use Rattle.symbol.specs.Table.{numer, denom, left_num, left_den}
use Rattle.symbol.specs.Symbol.{IsSymbol}
use Rattle.pairing.specs.Generator.{frame_at}
use Rattle.polygon.specs.Cut.{den}
use Rattle.polygon.specs.Triangles.{Fraction, fraction, opposite, mediant, vertex_at, at_zero, at_infinity, Edge, Farey}
use Rattle.polygon.proofs.Chord.{Over, left_den_lem}

-- ---- columns

times_Q : (a b c d : ℤ) → mat a b c d ⊗ mat_q ≡ mat b (neg_ℤ (b +ℤ a)) d (neg_ℤ (d +ℤ c))
unfolding mat_q
times_Q a b c d =
    let m = lit (var 0) (var 1) (var 2) (var 3) in
    ring_m (a ∷ b ∷ c ∷ d ∷ []) (m ⊛ const mat_q) (lit (var 1) (⊖ (var 1 ⊕ var 0)) (var 3) (⊖ (var 3 ⊕ var 2))) tt

times_P : (a b c d : ℤ) → mat a b c d ⊗ mat_p ≡ mat (neg_ℤ (b +ℤ a)) a (neg_ℤ (d +ℤ c)) c
unfolding adj mat_q mat_p
times_P a b c d =
    let m = lit (var 0) (var 1) (var 2) (var 3) in
    ring_m (a ∷ b ∷ c ∷ d ∷ []) (m ⊛ const mat_p) (lit (⊖ (var 1 ⊕ var 0)) (var 0) (⊖ (var 3 ⊕ var 2)) (var 2)) tt

-- ---- vertices

module _ (v : ℕ) (t : List ℤ) (ok : IsSymbol v t) where
  left_is : (y : ℕ) → y ≤ v → fraction (left_num t y) (left_den t y) ≡ vertex_at v t y
  left_is zero h = refl
  left_is (suc i) h = sym (ap (λ (b : Bool). fraction (pick b (numer t i) (pos 1)) (pick b (denom t i) (pos 0))) (lt-ltb i v (omega arith)))

  pub vertex_is : (y : ℕ) → y ≤ v → fraction (left_num t y) (pos (den t y)) ≡ vertex_at v t y
  vertex_is y h = ap (λ (z : ℤ). fraction (left_num t y) z) (sym (left_den_lem v t ok y h)) ∙ left_is y h

  -- ---- sides

  pub side_edge : (i : ℕ) → i ≤ v → Edge v t (frame_at v t i) i (suc i)
  side_edge i h = record { from = inl (left_is i h); to = inl refl }

  -- ---- the triangle under a chord

  module _ (x : Mat) (o : Over v t x) where
    abbrev l : ℕ
    l = o.left

    abbrev m : ℕ
    m = o.middle

    abbrev r : ℕ
    r = o.right

    left_end : fraction (left_num t l) (pos (den t l)) ≡ vertex_at v t l
    left_end = let k = o.ordered in vertex_is l (omega arith)

    right_end : fraction (left_num t r) (pos (den t r)) ≡ vertex_at v t r
    right_end = vertex_is r o.ordered.2

    -- the sum of the two columns
    sum_is : fraction (left_num t l +ℤ left_num t r) (pos (den t l) +ℤ pos (den t r)) ≡ vertex_at v t m
    sum_is =
        let k = o.ordered in
        sym (ap (λ (z : ℤ). fraction z (pos (den t m))) o.num_is ∙ ap (λ (z : ℕ). fraction (left_num t l +ℤ left_num t r) (pos z)) o.den_is)
        ∙ vertex_is m (omega arith)

    between : vertex_at v t m ≡ mediant (vertex_at v t l) (vertex_at v t r)
    between = sym sum_is ∙ ap (λ (z : Fraction). mediant z (fraction (left_num t r) (pos (den t r)))) left_end ∙ ap (mediant (vertex_at v t l)) right_end

    edge_0 : Edge v t x l r
    edge_0 = record { from = inl (ap at_zero o.is ∙ left_end); to = inl (ap at_infinity o.is ∙ right_end) }

    spun_Q : x ⊗ mat_q ≡ mat (left_num t l) (neg_ℤ (left_num t l +ℤ left_num t r)) (pos (den t l)) (neg_ℤ (pos (den t l) +ℤ pos (den t r)))
    spun_Q = ap (λ (z : Mat). z ⊗ mat_q) o.is ∙ times_Q (left_num t r) (left_num t l) (pos (den t r)) (pos (den t l))

    spun_P : x ⊗ mat_p ≡ mat (neg_ℤ (left_num t l +ℤ left_num t r)) (left_num t r) (neg_ℤ (pos (den t l) +ℤ pos (den t r))) (pos (den t r))
    spun_P = ap (λ (z : Mat). z ⊗ mat_p) o.is ∙ times_P (left_num t r) (left_num t l) (pos (den t r)) (pos (den t l))

    edge_1 : Edge v t (x ⊗ mat_q) m l
    edge_1 = record { from = inr (ap at_zero spun_Q ∙ ap opposite sum_is); to = inl (ap at_infinity spun_Q ∙ left_end) }

    edge_2 : Edge v t (x ⊗ mat_p) r m
    edge_2 = record { from = inl (ap at_zero spun_P ∙ right_end); to = inr (ap at_infinity spun_P ∙ ap opposite sum_is) }

    pub farey : (frame : ℕ → Mat) (k : ℕ) → frame (3 * k) ≡ x → frame (3 * k + 1) ≡ x ⊗ mat_q → frame (3 * k + 2) ≡ x ⊗ mat_p → Farey v t frame k
    farey frame k a b c = record {
      left = l;
      middle = m;
      right = r;
      ordered = o.ordered;
      between = between;
      corner_0 = rw a edge_0;
      corner_1 = rw b edge_1;
      corner_2 = rw c edge_2;
    }
