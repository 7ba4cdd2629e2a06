-- Which numbers can be named next, test by test, and what a step leaves.
-- Assumes nothing.
use Rattle.std.specs.Prelude.{Option, None, Some}
use mathlib.Core.Path.{◌≡◌, ap, ◌∙◌}
use mathlib.Core.Bool.{Bool, true, false, not, ◌&&◌}
use mathlib.Core.List.{List}
use Prim.Native.Nat.{ℕ, ◌-◌, ◌≤◌, ◌<◌}
use lib.Dec.{leb, ltb}
use lib.ListN.{get_or}
use borrow.Author.Tests.{lt-leb, le-leb}
use Rattle.cycle_reading.specs.declared.points.Cycle.{Cycle}
use Rattle.cycle_reading.specs.declared.points.Part.{Part}
use Rattle.cycle_reading.specs.Inner.Phases.{takes_point}
use Rattle.cycle_reading.specs.Inner.Hand.{can_name, cycle_or, CycleFits}

module _ (n x : ℕ) (p : Part) (marks : List Bool) where
  abbrev fourth : Bool
  fourth = not (get_or marks (x - 1) false) && ltb p.used n

  pub no_phase : takes_point p.phase ≡ false → can_name n x p marks ≡ false
  no_phase e = ap (λ (b : Bool). b && (leb 1 x && (leb x n && fourth))) e

  with_phase : takes_point p.phase ≡ true → can_name n x p marks ≡ (leb 1 x && (leb x n && fourth))
  with_phase e = ap (λ (b : Bool). b && (leb 1 x && (leb x n && fourth))) e

  pub too_low : takes_point p.phase ≡ true → x < 1 → can_name n x p marks ≡ false
  too_low e h = with_phase e ∙ ap (λ (b : Bool). b && (leb x n && fourth)) (lt-leb 1 x h)

  with_low : takes_point p.phase ≡ true → 1 ≤ x → can_name n x p marks ≡ (leb x n && fourth)
  with_low e h = with_phase e ∙ ap (λ (b : Bool). b && (leb x n && fourth)) (le-leb 1 x h)

  pub too_high : takes_point p.phase ≡ true → 1 ≤ x → n < x → can_name n x p marks ≡ false
  too_high e h k = with_low e h ∙ ap (λ (b : Bool). b && fourth) (lt-leb x n k)

  with_high : takes_point p.phase ≡ true → 1 ≤ x → x ≤ n → can_name n x p marks ≡ fourth
  with_high e h k = with_low e h ∙ ap (λ (b : Bool). b && fourth) (le-leb x n k)

  pub marked : takes_point p.phase ≡ true → 1 ≤ x → x ≤ n → get_or marks (x - 1) false ≡ true → can_name n x p marks ≡ false
  marked e h k m = with_high e h k ∙ ap (λ (b : Bool). not b && ltb p.used n) m

  pub by_room : takes_point p.phase ≡ true → 1 ≤ x → x ≤ n → get_or marks (x - 1) false ≡ false → can_name n x p marks ≡ ltb p.used n
  by_room e h k m = with_high e h k ∙ ap (λ (b : Bool). not b && ltb p.used n) m

-- the cycle under way, or the one that i begins, has its points in the table
pub fits_or : (k : Option Cycle) (i : ℕ) → CycleFits k → i < 3066 → ((cycle_or k i).first < 3066) × ((cycle_or k i).last < 3066)
fits_or None i f h = (h, h)
fits_or (Some k) i f h = f
