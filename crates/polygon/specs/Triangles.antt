-- THE CUT INTO FAREY TRIANGLES (docs/CONVENTIONS.md, 7), said of a function `frame` from positions to matrices. A
-- position is an edge with its triangle on the right, or a side from left to right; its frame is a matrix that sends 0
-- and infinity to the two ends of the edge; S turns the edge round, and Q goes to the next edge of the triangle.
-- Nothing here speaks of the scan that finds the triangles.
--
--   Fraction, fraction n d   the fraction n/d, which is infinity where d is 0
--   opposite x               -n/-d, the same point of the line
--   x ≃ y                    one point of the line: x is y, or its opposite
--   mediant x y              (n + n')/(d + d')
--   vertex_at v t y          the vertices of the polygon from left to right: 0 is -1/0, 1 to v are those of the table,
--                            and v + 1 is 1/0
--   at_zero m, at_infinity m  where the matrix m sends 0 and infinity: its second column, and its first
--   Edge v t m x y           m is a matrix of the edge from vertex x to vertex y: it sends 0 to x and infinity to y
--   Farey v t frame k        triangle k is a Farey triangle: its vertices are left, middle and right in this order, and
--                            the middle one is the mediant of the others. Its corners 3 k, 3 k + 1, 3 k + 2 are its
--                            edges with the triangle on their right: from left to right, from middle to left, from
--                            right to middle
--   Triangles v t frame      the cut, in these parts:
--     sides            the outer face of side i has the frame of that side: it is the edge from vertex i to vertex i +
--                      1
--     triangles        the v - 1 triangles are Farey triangles; frames have determinant 1; Q turns within the triangle
--     edge to edge     beyond each edge lies exactly one other position, which is the same edge turned round by S
--     one piece        beyond a side lies a triangle, unless v = 1 and there is none; beyond the edge from left to
--                      right of a triangle lies a triangle of a higher number, or the last side. It follows that they
--                      hang together as a tree, and fill the polygon
use Rattle.std.specs.Prelude.{◌≡◌, ◌⊎◌, List, ℕ, zero, suc, ◌+◌, ◌*◌, ◌-◌, ◌≤◌, ◌<◌, ℤ, pos, negsuc, neg_ℤ, ◌+ℤ◌}
use Rattle.matrix.specs.Matrix.{Mat, ◌⊗◌, det, mat_s, mat_q, ◌≈◌}
use Rattle.symbol.specs.Table.{right_num, right_den}
use Rattle.pairing.specs.Generator.{frame_at}
use Rattle.polygon.specs.Cut.{corners, outer, places, flip}
use Rattle.polygon.specs.Step.{turn_q}

-- ---- points of the line

pub record Fraction : Type 0 where
  pub num : ℤ
  pub den : ℤ

abbrev pub fraction : ℤ → ℤ → Fraction
fraction n d = record { num = n; den = d }

abbrev pub opposite : Fraction → Fraction
opposite x = fraction (neg_ℤ x.num) (neg_ℤ x.den)

infix 4 ◌≃◌
abbrev pub ◌≃◌ : Fraction → Fraction → Type 0
x ≃ y = (x ≡ y) ⊎ (x ≡ opposite y)

abbrev pub mediant : Fraction → Fraction → Fraction
mediant x y = fraction (x.num +ℤ y.num) (x.den +ℤ y.den)

abbrev pub vertex_at : ℕ → List ℤ → ℕ → Fraction
vertex_at v t zero = fraction (negsuc 0) (pos 0)
vertex_at v t (suc i) = fraction (right_num v t i) (right_den v t i)

-- ---- edges

abbrev pub at_zero : Mat → Fraction
at_zero m = fraction m.b m.d

abbrev pub at_infinity : Mat → Fraction
at_infinity m = fraction m.a m.c

pub record Edge (v : ℕ) (t : List ℤ) (m : Mat) (x y : ℕ) : Type 0 where
  pub from : at_zero m ≃ vertex_at v t x
  pub to : at_infinity m ≃ vertex_at v t y

-- ---- triangles

pub record Farey (v : ℕ) (t : List ℤ) (frame : ℕ → Mat) (k : ℕ) : Type 0 where
  pub left : ℕ
  pub middle : ℕ
  pub right : ℕ
  pub ordered : (left < middle) × (middle < right) × (right ≤ v)
  pub between : vertex_at v t middle ≡ mediant (vertex_at v t left) (vertex_at v t right)
  pub corner_0 : Edge v t (frame (3 * k)) left right
  pub corner_1 : Edge v t (frame (3 * k + 1)) middle left
  pub corner_2 : Edge v t (frame (3 * k + 2)) right middle

pub record Triangles (v : ℕ) (t : List ℤ) (frame : ℕ → Mat) : Type 0 where
  -- sides
  pub sides : (i : ℕ) → frame (outer v i) ≡ frame_at v t i
  pub side_edge : (i : ℕ) → i ≤ v → Edge v t (frame (outer v i)) i (suc i)
  -- triangles
  pub triangle : (k : ℕ) → k < v - 1 → Farey v t frame k
  pub unit : (p : ℕ) → p < places v → det (frame p) ≡ pos 1
  pub turn_Q : (p : ℕ) → p < corners v → frame p ⊗ mat_q ≡ frame (turn_q v p)
  -- edge to edge
  pub flips : (p : ℕ) → flip v t (flip v t p) ≡ p
  pub within : (p : ℕ) → p < places v → flip v t p < places v
  pub differs : (p : ℕ) → p < places v → p ≡ flip v t p → ⊥
  pub turn_S : (p : ℕ) → p < places v → frame p ⊗ mat_s ≈ frame (flip v t p)
  -- one piece
  pub inside : (i : ℕ) → i ≤ v → (flip v t (outer v i) < corners v) ⊎ (v ≡ 1)
  pub above : (k : ℕ) → k < v - 1 → (3 * k + 2 < flip v t (3 * k))
      × ((flip v t (3 * k) < corners v) ⊎ (flip v t (3 * k) ≡ outer v v))
