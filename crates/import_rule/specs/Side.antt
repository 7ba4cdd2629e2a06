-- Sides between neighbouring vertices, as they are while a symbol is being made.
--
--   Vertex, vertex a b      the vertex a/b; its denominator is a natural number
--   minus_infinity, infinity -1/0, before the first vertex, and 1/0, after the last
--   Interval, interval x y  the side from x on the left to y on the right
--   interval_frame s        its frame: from a/b to a'/b' it is (a' a; b' b)
--   mediant x y             (a + a')/(b + b'), where the side from a/b to a'/b' is split
--   lower s, upper s        its two parts, left and right of the mediant
--   limit                   1,000,000,000: no entry of a vertex is larger in size
--   fits x                  whether the entries of the vertex x keep to the limit
use Rattle.std.specs.Prelude.{Bool, ◌&&◌, ℕ, ◌+◌, leb, ℤ, pos, negsuc, nat_abs, ◌+ℤ◌}
use Rattle.matrix.specs.Matrix.{Mat, mat}

pub record Vertex : Type 0 where
  pub num : ℤ
  pub den : ℕ

abbrev pub vertex : ℤ → ℕ → Vertex
vertex a b = record { num = a; den = b }

abbrev pub minus_infinity : Vertex
minus_infinity = vertex (negsuc 0) 0

abbrev pub infinity : Vertex
infinity = vertex (pos 1) 0

pub record Interval : Type 0 where
  pub lo : Vertex
  pub hi : Vertex

abbrev pub interval : Vertex → Vertex → Interval
interval x y = record { lo = x; hi = y }

abbrev pub interval_frame : Interval → Mat
interval_frame s = mat s.hi.num s.lo.num (pos s.hi.den) (pos s.lo.den)

abbrev pub mediant : Vertex → Vertex → Vertex
mediant x y = vertex (x.num +ℤ y.num) (x.den + y.den)

abbrev pub lower : Interval → Interval
lower s = interval s.lo (mediant s.lo s.hi)

abbrev pub upper : Interval → Interval
upper s = interval (mediant s.lo s.hi) s.hi

abbrev pub limit : ℕ
limit = 1000000000

abbrev pub fits : Vertex → Bool
fits x = leb (nat_abs x.num) limit && leb x.den limit
