-- Cutting the polygon into Farey triangles, by the denominators of its vertices alone.
--
--   corners v          how many corners the v - 1 triangles have: 3 (v - 1)
--   outer v i          the position that is the outer face of side i; corner c of triangle m is the position 3 m + c
--   places v           how many positions there are: the corners, and then an outer face for each of the v + 1 sides
--   den t y            the denominator of vertex y, where the vertices are counted from 0 for -1/0: 0, and then those
--                      of the table
--   Cell, cell y h     a vertex y on the stack of the scan, and the position h just under the chord that ends there
--                      (its handle)
--   below l, handle l  the vertex on top of the stack l, which is -1/0 where l is empty; the handle there
--   Scan, scan a m l   the state of the scan: what is known of the array of other sides, the triangles cut so far, the
--                      stack
--   link a p q         p and q noted as the two sides of one edge
--   push t l a m h y   the vertex y pushed, where h lies under the chord from the top of the stack to y: as long as the
--                      top is the mediant of the vertex below it and y, the three are a triangle, which is cut off
--   scanned v t n      the scan after its first n vertices
--   flip_of v t        the array of other sides: beyond the edge at position p lies the position at place p of the
--                      array
--   flip v t p         that position, and p itself past the array's end
--   under_zero v t     the position under the chord from -1/0 to the first vertex that is 0/1
--
-- A chord that a triangle hangs under is cut off later, or it is the last side, whose outer face is joined with it at
-- the end.
use Rattle.std.specs.Prelude.{List, [], ◌∷◌, ℕ, zero, suc, ◌+◌, ◌*◌, ◌-◌, eqb, get_or, set, replicate, ℤ, nat_abs}
use Rattle.basics.specs.Choice.{pick}
use Rattle.basics.specs.Count.{first}
use Rattle.symbol.specs.Table.{denom}
use Rattle.symbol.specs.Check.{is_zero}

abbrev pub corners : ℕ → ℕ
corners v = 3 * (v - 1)

abbrev pub outer : ℕ → ℕ → ℕ
outer v i = corners v + i

abbrev pub places : ℕ → ℕ
places v = corners v + (v + 1)

abbrev pub den : List ℤ → ℕ → ℕ
den t zero = 0
den t (suc i) = nat_abs (denom t i)

pub record Cell : Type 0 where
  pub vertex : ℕ
  pub under : ℕ

abbrev pub cell : ℕ → ℕ → Cell
cell y h = record { vertex = y; under = h }

abbrev pub below : List Cell → ℕ
below [] = 0
below (c ∷ l) = c.vertex

abbrev pub handle : List Cell → ℕ
handle [] = 0
handle (c ∷ l) = c.under

pub record Scan : Type 0 where
  pub flips : List ℕ
  pub cut : ℕ
  pub stack : List Cell

abbrev pub scan : List ℕ → ℕ → List Cell → Scan
scan a m l = record { flips = a; cut = m; stack = l }

abbrev pub link : List ℕ → ℕ → ℕ → List ℕ
link a p q = set (set a p q) q p

-- the triangle m, cut off over the chords at hl and h: its corner 1 meets the left one, its corner 2 the right one
abbrev pub attach : List ℕ → ℕ → ℕ → ℕ → List ℕ
attach a m hl h = link (link a (3 * m + 1) hl) (3 * m + 2) h

abbrev pub push : List ℤ → List Cell → List ℕ → ℕ → ℕ → ℕ → Scan
push t [] a m h y = scan a m (cell y h ∷ [])
push t (c ∷ l) a m h y =
    pick (eqb (den t c.vertex) (den t (below l) + den t y))
    (push t l (attach a m c.under h) (m + 1) (3 * m) y)
    (scan a m (cell y h ∷ c ∷ l))

abbrev pub pushed : List ℤ → Scan → ℕ → ℕ → Scan
pushed t s h y = push t s.stack s.flips s.cut h y

abbrev pub scanned : ℕ → List ℤ → ℕ → Scan
scanned v t zero = scan (replicate (places v) 0) 0 []
scanned v t (suc n) = pushed t (scanned v t n) (outer v n) (suc n)

unfoldable pub flip_of : ℕ → List ℤ → List ℕ
flip_of v t = let s = scanned v t v in link s.flips (outer v v) (handle s.stack)

abbrev pub flip : ℕ → List ℤ → ℕ → ℕ
flip v t p = get_or (flip_of v t) p p

unfoldable pub under_zero : ℕ → List ℤ → ℕ
under_zero v t = handle (scanned v t (suc (first (is_zero t) v))).stack
