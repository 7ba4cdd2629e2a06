-- THE CALL `draw_symbol`: its refusals, what it returns and what it leaves (docs/CONVENTIONS.md, 14).
--
--   row_for, drawn_row v t i  side i in four floats: a line gives 0, its place and 0, an arc 1, its centre and its
--                             radius; behind these the kind, 1 free, 2 even, 3 odd
--   drawn_rows v t n          those of the first n sides, one after another
--   too_large_at t i          whether the entry i is over 33,554,432 in size
--   check22 v t               refused with 22 at the first such vertex entry
--   Picture v t               what a drawing of the symbol means; its box is `box_to v t (v + 1)`
--   box_numbers b             the four floats of a box: left, right, bottom, top
--   drawing_steps v t out     the checks 1 to 7, then 22, then the rows: 11 with the number of sides where out holds
--                             fewer whole ones
--   drawing_call              the exported call: the rows, the box behind them, and what they mean
use Rattle.std.specs.Prelude.{◌≡◌, Bool, not, List, [], ◌∷◌, ◌++◌, ℕ, zero, suc, ◌+◌, ◌*◌, ◌≤◌, ◌<◌, leb}
use Rattle.std.specs.Prelude.{ℤ, nat_abs, Float}
use Rattle.basics.specs.Count.{first}
use Rattle.matrix.specs.Matrix.{nth}
use Rattle.call.specs.Refusal.{Checked}
use Rattle.call.specs.declared.refusal.Refusal.TheVariants.{TooLargeToDraw}
use Rattle.call.specs.Call.{Lent, Step, asks, result_in, stores_rows, Contract}
use Rattle.symbol.specs.Table.{side_at}
use Rattle.symbol.specs.Check.{refuse_at, symbol_check}
use Rattle.symbol.specs.Symbol.{IsSymbol}
use Rattle.pairing.specs.Generator.{kind_of, pairing_at}
use Rattle.drawing.specs.Quotient.{float_of, Exact}
use Rattle.drawing.specs.Drawn.{drawn_at, place_num, place_den, CarriedOver, NearExact}
use Rattle.drawing.specs.Bounding.{box_to, Tight}
use Rattle.drawing.specs.declared.Drawn.{Drawn}
use Rattle.drawing.specs.declared.Drawn.TheVariants.{Line, Arc}
use Rattle.drawing.specs.declared.BoundingBox.{BoundingBox}

-- ---- rows

abbrev pub row_for : Drawn → Float → List Float
row_for (Line x) kind = float_of 0 ∷ x ∷ float_of 0 ∷ kind ∷ []
row_for (Arc c r) kind = float_of 1 ∷ c ∷ r ∷ kind ∷ []

abbrev pub drawn_row : ℕ → List ℤ → ℕ → List Float
drawn_row v t i = row_for (drawn_at v t i) (float_of (kind_of (pairing_at v t i)))

unfoldable pub drawn_rows : ℕ → List ℤ → ℕ → List Float
drawn_rows v t zero = []
drawn_rows v t (suc n) = drawn_rows v t n ++ drawn_row v t n

-- ---- refusals

abbrev pub too_large_at : List ℤ → ℕ → Bool
too_large_at t i = not (leb (nat_abs (nth t i)) 33554432)

abbrev pub check22 : ℕ → List ℤ → Checked
check22 v t = refuse_at (first (too_large_at t) (2 * v)) (2 * v) TooLargeToDraw

abbrev pub box_numbers : BoundingBox → List Float
box_numbers b = b.left ∷ b.right ∷ b.bottom ∷ b.top ∷ []

-- ---- what it means

-- what is divided is carried over whole, the quotients are near; a line stands exactly at its finite vertex, a whole
-- number over 1
pub record Picture (v : ℕ) (t : List ℤ) : Type 0 where
  pub symbol : IsSymbol v t
  pub small : (i : ℕ) → i < 2 * v → nat_abs (nth t i) ≤ 33554432
  pub carried : (i : ℕ) → i ≤ v → CarriedOver (side_at v t i)
  pub near : (i : ℕ) → i ≤ v → NearExact (side_at v t i) (drawn_at v t i)
  pub exact : (i : ℕ) (x : Float) → i ≤ v → drawn_at v t i ≡ Line x → (place_den (side_at v t i) ≡ 1)
      × Exact (place_num (side_at v t i)) x
  pub box : Tight v t (box_to v t (v + 1))

-- ---- the call

abbrev pub drawing_steps : (v : ℕ) → List ℤ → Lent (List Float) → List Step
drawing_steps v t out =
    asks (symbol_check v t) ++ asks (check22 v t) ++ stores_rows 4 (v + 1) (drawn_rows v t (v + 1)) out

abbrev pub drawing_call : (v : ℕ) → List ℤ → (out bounds : Lent (List Float)) → Contract
drawing_call v t out bounds = record {
  steps = drawing_steps v t out ++ result_in (box_numbers (box_to v t (v + 1))) bounds;
  count = v + 1;
  Says = λ number place. number ≡ 0 → Picture v t;
}
