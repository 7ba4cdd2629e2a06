-- TWO FREE LABELS EXCHANGE PARTNERS (docs/CONVENTIONS.md, 16): their first sides stay, and their second sides trade
-- labels.
--
--   first_side_in v p x  the leftmost side with the label x in the pairings p; v + 1 where there is none
--   first_side v t x     the leftmost side with the label x in the table t
--   second_side v t x    the other side with that label
--   with_label v t i x    the table t, with the label x for the side i
--   exchanged v t x y    the table t after the exchange: the second side of x has the label y, and the second side of y
--                        the label x
--   is_free_label v p x  whether x is the free label of a side
--   check23 v p x y      23 with the place 0 or 1 for the first of the two numbers that isn't one, or else 1 where they
--                        are the same
use Rattle.std.specs.Prelude.{Bool, not, ◌&&◌, List, ℕ, ◌+◌, ◌*◌, ltb, set, ℤ}
use Rattle.matrix.specs.Matrix.{nth}
use Rattle.matrix.specs.Euclid.{positive}
use Rattle.basics.specs.Count.{first}
use Rattle.call.specs.Refusal.{◌or_else◌, Checked}
use Rattle.call.specs.declared.refusal.Refusal.TheVariants.{NotFreeLabel}
use Rattle.symbol.specs.Table.{pairing_entries}
use Rattle.symbol.specs.Check.{eq_z, refuse}
use Rattle.pairing.specs.Generator.{partner}

abbrev pub first_side_in : ℕ → List ℤ → ℤ → ℕ
first_side_in v p x = first (λ (k : ℕ). eq_z (nth p k) x) (v + 1)

abbrev pub first_side : ℕ → List ℤ → ℤ → ℕ
first_side v t x = first_side_in v (pairing_entries v t) x

abbrev pub second_side : ℕ → List ℤ → ℤ → ℕ
second_side v t x = partner v t (first_side v t x)

abbrev pub with_label : ℕ → List ℤ → ℕ → ℤ → List ℤ
with_label v t i x = set t (2 * v + i) x

unfoldable pub exchanged : ℕ → List ℤ → (x y : ℤ) → List ℤ
exchanged v t x y = with_label v (with_label v t (second_side v t x) y) (second_side v t y) x

-- the labels of a symbol are its positive pairings
abbrev pub is_free_label : ℕ → List ℤ → ℤ → Bool
is_free_label v p x = positive x && ltb (first_side_in v p x) (v + 1)

abbrev pub check23 : ℕ → List ℤ → (x y : ℤ) → Checked
check23 v p x y =
    refuse (not (is_free_label v p x)) (NotFreeLabel 0) or_else refuse (not (is_free_label v p y))
    (NotFreeLabel 1) or_else refuse (eq_z x y) (NotFreeLabel 1)
