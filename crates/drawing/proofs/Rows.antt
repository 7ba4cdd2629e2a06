-- ALL SIDES of a symbol with small vertex entries: what `draw` asks holds of each (`drawable_side`), because both its ends are vertices or infinity and no
-- two neighbours are both infinity; and with row i the rows of i sides are those of i + 1 (`rows_none`, `rows_more`). Assumes nothing.
use mathlib.Core.Path.{◌≡◌, refl, sym, ◌∙◌, ap}
use mathlib.Core.List.{List, [], ◌∷◌, ◌++◌}
use Prim.Native.Nat.{ℕ, zero, suc, ◌+◌, ◌*◌, ◌≤◌, ◌<◌}
use native.Mathlib.Omega.{arith}
use native.Mathlib.Decide.{dec_lt}
use lib.Dec.{lit≤}
use lib.IntN.{ℤ, pos, negsuc, nat_abs}
use lib.ListN.{length, get_or, set, take, drop, length-append, length-drop}
use lib.Seq.{sets-eq, take_at, drop_at, drop-drop}
use lib.Ieee.{Float, nan}
use Rattle.symbol.specs.Table.{numer, denom, left_num, left_den, right_num, right_den, side_at}
use Rattle.symbol.proofs.Sides.{right_inside, right_last}
use Rattle.drawing.specs.Drawn.{drawn_at}
use Rattle.drawing.specs.Answer.{row_for, drawn_row, drawn_rows}
use Rattle.drawing.specs.Inner.Ready.{Drawable, SmallSymbol, put_four, DrawnTo}
use Rattle.drawing.specs.declared.Drawn.{Drawn}
use Rattle.drawing.specs.declared.Drawn.TheVariants.{Line, Arc}

-- ---- ends of sides

-- n/d as an end of a drawable side
record Small (n d : ℤ) : Type 0 where
  above : nat_abs n ≤ 33554432
  below : nat_abs d ≤ 33554432
  natural : d ≡ pos (nat_abs d)

from_infinity : Small (negsuc 0) (pos 0)
from_infinity = record { above = lit≤ tt; below = lit≤ tt; natural = refl }

to_infinity : Small (pos 1) (pos 0)
to_infinity = record { above = lit≤ tt; below = lit≤ tt; natural = refl }

module _ (v : ℕ) (t : List ℤ) (s : SmallSymbol v t) where
  vertex : (i : ℕ) → i < v → Small (numer t i) (denom t i)
  vertex i h = record { above = s.small (2 * i) (omega arith); below = s.small (2 * i + 1) (omega arith); natural = (s.symbol.denoms i h).2 }

  some_denominator : (i : ℕ) → i < v → 1 ≤ nat_abs (denom t i)
  some_denominator i h = let d = (s.symbol.denoms i h).0 in omega arith

  start : (i : ℕ) → i ≤ v → Small (left_num t i) (left_den t i)
  start zero h = from_infinity
  start (suc i) h = vertex i (omega arith)

  finish : (i : ℕ) → i ≤ v → Small (right_num v t i) (right_den v t i)
  finish i h = elim (dec_lt i v) [
    | yes l ↦ let e = right_inside v t i l in rw (e.0, e.1) (vertex i l)
    | no l ↦ let e = right_last v t i (omega arith) in rw (e.0, e.1) to_infinity
  ]

  -- the first side ends at the first vertex, and every other begins at one
  one_finite : (i : ℕ) → i ≤ v → 1 ≤ nat_abs (left_den t i) + nat_abs (right_den v t i)
  one_finite zero h = let l : 0 < v = omega (arith, s.symbol.some) in rw (right_inside v t 0 l).1 (omega (arith, some_denominator 0 l))
  one_finite (suc i) h = omega (arith, some_denominator i (omega arith))

  pub drawable_side : (i : ℕ) → i ≤ v → Drawable (side_at v t i)
  drawable_side i h = record {
    in_a = (start i h).above;
    in_b = (start i h).below;
    in_c = (finish i h).above;
    in_d = (finish i h).below;
    natural_b = (start i h).natural;
    natural_d = (finish i h).natural;
    some_finite = one_finite i h;
  }

-- ---- rows in the result space

pub four_stores : (out : List Float) (n : ℕ) (a b c d : Float) → 4 * n + 4 ≤ length out
    → set (set (set (set out (4 * n) a) (4 * n + 1) b) (4 * n + 2) c) (4 * n + 3) d ≡ put_four n (a ∷ b ∷ c ∷ d ∷ []) out
four_stores out n a b c d h =
    let one : 4 * n + 1 ≡ suc (4 * n) = omega arith in
    let two : 4 * n + 2 ≡ suc (suc (4 * n)) = omega arith in
    let three : 4 * n + 3 ≡ suc (suc (suc (4 * n))) = omega arith in
    rw (one, two, three) (sets-eq (a ∷ b ∷ c ∷ d ∷ []) out (4 * n) h)

-- a row, stored float by float
pub row_stored : (r : Drawn) (k : Float) (out : List Float) (n : ℕ) → 4 * n + 4 ≤ length out
    → set (set (set (set out (4 * n) (get_or (row_for r k) 0 nan)) (4 * n + 1) (get_or (row_for r k) 1 nan)) (4 * n + 2) (get_or (row_for r k) 2 nan))
    (4 * n + 3) (get_or (row_for r k) 3 nan)
    ≡ put_four n (row_for r k) out
row_stored (Line x) k out n h = four_stores out n _ _ _ _ h
row_stored (Arc c r) k out n h = four_stores out n _ _ _ _ h

length_row : (r : Drawn) (k : Float) → length (row_for r k) ≡ 4
length_row (Line x) k = refl
length_row (Arc c r) k = refl

-- behind a front of n stand w in place of what was there: the front is longer by these
front_more : (n w : ℕ) (front row out : List Float) → length front ≡ n
    → take n (front ++ drop n out) ++ row ++ drop (n + w) (front ++ drop n out) ≡ front ++ row ++ drop (n + w) out
front_more n w front row out e =
    ap (λ (x : List Float). x ++ row ++ drop (n + w) (front ++ drop n out)) (take_at front (drop n out) n e)
    ∙ ap (λ (x : List Float). front ++ row ++ x)
    (sym (drop-drop w n (front ++ drop n out)) ∙ ap (drop w) (drop_at front (drop n out) n e) ∙ drop-drop w n out)

module _ (v : ℕ) (t : List ℤ) where
  length_drawn_row : (i : ℕ) → length (drawn_row v t i) ≡ 4
  length_drawn_row i = length_row (drawn_at v t i) _

  pub length_rows : (n : ℕ) → length (drawn_rows v t n) ≡ 4 * n
  unfolding drawn_rows
  length_rows zero = refl
  length_rows (suc n) = let e = length_rows n in length-append (drawn_rows v t n) (drawn_row v t n) ∙ omega (arith, length_drawn_row n)

  -- no space gets longer or shorter by rows at its front
  same_long : (i : ℕ) (out out' : List Float) → 4 * i ≤ length out → out' ≡ drawn_rows v t i ++ drop (4 * i) out → length out' ≡ length out
  same_long i out out' h e =
      ap length e ∙ length-append (drawn_rows v t i) (drop (4 * i) out) ∙ omega (arith, length_rows i, length-drop (4 * i) out)

  pub rows_none : (out : List Float) → DrawnTo v t 0 out out
  unfolding drawn_rows
  rows_none out = record { table = refl; long = refl }

  pub rows_more : (i : ℕ) (out out' : List Float) → 4 * i + 4 ≤ length out → DrawnTo v t i out out'
      → DrawnTo v t (suc i) out (put_four i (drawn_row v t i) out')
  unfolding drawn_rows
  rows_more i out out' h r =
      let row = drawn_row v t i in
      let count : 4 * i + 4 ≡ 4 * suc i = omega arith in
      let next : put_four i row out' ≡ drawn_rows v t (suc i) ++ drop (4 * suc i) out =
      ap (put_four i row) r.table ∙ front_more (4 * i) 4 (drawn_rows v t i) row out (length_rows i)
      ∙ ap (λ (n : ℕ). drawn_rows v t i ++ row ++ drop n out) count in
      record { table = next; long = same_long (suc i) out (put_four i row out') (omega arith) next }
