-- Following the positions of a symbol, of n vertices in the table u, in those of another, of v vertices in the table t.
-- A triangle's corner 0 lies under one of a higher number, or under the last side: so where the corner under the last
-- side goes, all corners must go, one triangle after another from the last one on.
--
--   Tracks v t n u f       f takes the origin of u to that of t, and S and Q at positions of u to S and Q
--   Tracked v t n u        there is such an f
--   StepsOf v t s          s holds where S leads from each place of t
--   Beside v t s n u w     both are symbols, s holds the steps of the one, and w the polygon of the other
--   under_last n u         the position under the last side of u
--   corner_zero v y c      where corner 0 of a triangle goes, if its corner c goes to y
--   Forces v t n u p y q z     whatever tracks and takes p to y takes q to z
--   Climbed v t n u p y q z x  the same of a corner 0, q, beyond which lies x
--   TO, laid_at w p        where images are noted; what is noted at corner p
--   laid v w p y           w with y noted at corner 0, which is p, and its turns at the two others
--   top_image .. root j    where corner 0 of triangle j goes, by what is noted above it; root, under the last side
--   ImagesLaid .. root k   the triangles from k on have their images noted
--   agrees_at .. p         whether S from corner p agrees with what is noted: at a corner, by what is noted there; at
--                          an outer face, by an outer face
--   Agreed .. b            b says whether all corners agree
--   Carries v t n u p y    corners go somewhere, p to y, so that all agree
--   CarriedTo .. b         b says whether some do; if not, nothing tracks that takes p to y
use Rattle.std.specs.Prelude.{◌≡◌, Bool, true, false, List, ℕ, ◌+◌, ◌*◌, ◌-◌, ◌%◌, ◌≤◌, ◌<◌, ltb, eqb, length, get_or, set, ℤ}
use Rattle.basics.specs.Choice.{pick}
use Rattle.symbol.specs.Symbol.{IsSymbol}
use Rattle.polygon.specs.Cut.{corners, outer, places, flip}
use Rattle.polygon.specs.Step.{Real, step_s, turn_q, origin_of}
use Rattle.polygon.specs.Inner.Tables.{PolygonTables}

pub record Tracks (v : ℕ) (t : List ℤ) (n : ℕ) (u : List ℤ) (f : ℕ → ℕ) : Type 0 where
  pub origin : f (origin_of n u) ≡ origin_of v t
  pub by_S : (p : ℕ) → Real n u p → f (step_s n u p) ≡ step_s v t (f p)
  pub by_Q : (p : ℕ) → Real n u p → f (turn_q n p) ≡ turn_q v (f p)

pub record Tracked (v : ℕ) (t : List ℤ) (n : ℕ) (u : List ℤ) : Type 0 where
  pub to : ℕ → ℕ
  pub tracks : Tracks v t n u to

pub record StepsOf (v : ℕ) (t : List ℤ) (s : List ℕ) : Type 0 where
  pub size : length s ≡ 4096
  pub is : (p : ℕ) → p < places v → get_or s p 0 ≡ step_s v t p

pub record Beside (v : ℕ) (t : List ℤ) (s : List ℕ) (n : ℕ) (u : List ℤ) (w : List ℕ) : Type 0 where
  pub symbol : IsSymbol v t
  pub steps : StepsOf v t s
  pub tables : PolygonTables u n w

-- ---- up to the last side

abbrev pub under_last : ℕ → List ℤ → ℕ
under_last n u = flip n u (outer n n)

abbrev pub corner_zero : (v y c : ℕ) → ℕ
corner_zero v y c = pick (eqb c 0) y (pick (eqb c 1) (turn_q v (turn_q v y)) (turn_q v y))

abbrev pub Forces : (v : ℕ) (t : List ℤ) (n : ℕ) (u : List ℤ) (p y q z : ℕ) → Type 0
Forces v t n u p y q z = (f : ℕ → ℕ) → Tracks v t n u f → f p ≡ y → f q ≡ z

pub record Climbed (v : ℕ) (t : List ℤ) (n : ℕ) (u : List ℤ) (p y q z x : ℕ) : Type 0 where
  pub low : q < corners n
  pub zero : q % 3 ≡ 0
  pub real : Real v t z
  pub beyond : x ≡ flip n u q
  pub forced : Forces v t n u p y q z

-- ---- down to all triangles

abbrev pub TO : ℕ
TO = 16384

abbrev pub laid_at : List ℕ → ℕ → ℕ
laid_at w p = get_or w (TO + p) 0

abbrev pub laid : (v : ℕ) → List ℕ → (p y : ℕ) → List ℕ
laid v w p y = set (set (set w (TO + p) y) (TO + (p + 1)) (turn_q v y)) (TO + (p + 2)) (turn_q v (turn_q v y))

abbrev pub image_below : (v : ℕ) (t : List ℤ) (n : ℕ) (w : List ℕ) (root q : ℕ) → ℕ
image_below v t n w root q = pick (ltb q (corners n)) (step_s v t (laid_at w q)) root

abbrev pub top_image : (v : ℕ) (t : List ℤ) (n : ℕ) (u : List ℤ) (w : List ℕ) (root j : ℕ) → ℕ
top_image v t n u w root j = image_below v t n w root (flip n u (3 * j))

pub record ImagesLaid (v : ℕ) (t : List ℤ) (n : ℕ) (u : List ℤ) (w : List ℕ) (root k : ℕ) : Type 0 where
  pub tables : PolygonTables u n w
  pub real : (p : ℕ) → 3 * k ≤ p → p < corners n → Real v t (laid_at w p)
  pub turns : (p : ℕ) → 3 * k ≤ p → p < corners n → laid_at w (turn_q n p) ≡ turn_q v (laid_at w p)
  pub tops : (j : ℕ) → k ≤ j → j < n - 1 → laid_at w (3 * j) ≡ top_image v t n u w root j

-- ---- all corners

abbrev pub agrees_by : (v n : ℕ) (w : List ℕ) (z y : ℕ) → Bool
agrees_by v n w z y = pick (ltb z (corners n)) (eqb (laid_at w z) y) (pick (ltb y (corners v)) false true)

abbrev pub agrees_at : (v : ℕ) (t : List ℤ) (n : ℕ) (u : List ℤ) (w : List ℕ) (p : ℕ) → Bool
agrees_at v t n u w p = agrees_by v n w (step_s n u p) (step_s v t (laid_at w p))

pub record Differs (v : ℕ) (t : List ℤ) (n : ℕ) (u : List ℤ) (w : List ℕ) : Type 0 where
  pub at : ℕ
  pub low : at < corners n
  pub differs : agrees_at v t n u w at ≡ false

pub record Agreed (v : ℕ) (t : List ℤ) (n : ℕ) (u : List ℤ) (w : List ℕ) (b : Bool) : Type 0 where
  pub yes : b ≡ true → (p : ℕ) → p < corners n → agrees_at v t n u w p ≡ true
  pub no : b ≡ false → Differs v t n u w

pub record Carries (v : ℕ) (t : List ℤ) (n : ℕ) (u : List ℤ) (p y : ℕ) : Type 0 where
  pub to : ℕ → ℕ
  pub start : to p ≡ y
  pub turns : (x : ℕ) → x < corners n → to (turn_q n x) ≡ turn_q v (to x)
  pub inner : (x : ℕ) → x < corners n → step_s n u x < corners n → to (step_s n u x) ≡ step_s v t (to x)
  pub faces : (x : ℕ) → x < corners n → corners n ≤ step_s n u x → corners v ≤ step_s v t (to x)

pub record CarriedTo (v : ℕ) (t : List ℤ) (n : ℕ) (u : List ℤ) (p y : ℕ) (b : Bool) : Type 0 where
  pub yes : b ≡ true → Carries v t n u p y
  pub no : b ≡ false → (f : ℕ → ℕ) → Tracks v t n u f → f p ≡ y → ⊥
