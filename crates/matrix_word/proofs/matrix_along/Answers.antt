-- `matrix_along` is m, or (d -c; -b a) where the walk starts turned round, which is S⁻¹ m S (`round_is`). Why -b and -c fit: `minus_fits`.
-- Assumes nothing.
use mathlib.Core.Path.{sym, ◌∙◌}
use Prim.Native.Nat.{◌-◌, ◌^◌, ◌≤◌}
use native.Mathlib.Omega.{arith}
use lib.IntN.{nat_abs}
use mir.Facts.{to_z-of_z}
use Rattle.matrix.specs.Matrix.{nth, of_list}
use Rattle.matrix.proofs.Bounds.{kept, minus, minus_fits}
use Rattle.coset.proofs.Positions.{positions}
use Rattle.matrix_word.proofs.Along.{round_is}
use Rattle.matrix_word.proofs.matrix_along.Goals.{Start}
use Rattle.matrix_word.proofs.matrix_along.Goals as goal

-- the entries fit when they are turned to their negatives
module _ (s : Start) where
  b_fits : nat_abs (nth s.args.m 1) ≤ 2 ^ 63 - 1
  b_fits = omega (arith, s.requires.1.in_b)

  c_fits : nat_abs (nth s.args.m 2) ≤ 2 ^ 63 - 1
  c_fits = omega (arith, s.requires.1.in_c)

pub overflow_sub-result : goal.overflow_sub-result
overflow_sub-result c =
    let s = c in
    let m = s.args.m in
    rw (kept (nth m 2) c.result-then-is_turned-1.given) (minus_fits (nth m 2) (c_fits (goal.at.overflow_sub-result c).Start))

pub overflow_sub-result-then-is_turned : goal.overflow_sub-result-then-is_turned
overflow_sub-result-then-is_turned c =
    let s = c in
    let m = s.args.m in
    rw (kept (nth m 1) c.result-then-is_turned-2-1.given) (minus_fits (nth m 1) (b_fits (goal.at.overflow_sub-result-then-is_turned c).Start))

pub returns-then-is_turned : goal.returns-then-is_turned
returns-then-is_turned c =
    let s = c in
    let m = s.args.m in
    rw (
      kept (nth m 3) c.result-1.given,
      kept (nth m 2) c.result-then-is_turned-1.given,
      kept (nth m 1) c.result-then-is_turned-2-1.given,
      kept (nth m 0) c.result-then-is_turned-3-1.given,
      to_z-of_z (minus_fits (nth m 2) (c_fits (goal.at.returns-then-is_turned c).Start)),
      to_z-of_z (minus_fits (nth m 1) (b_fits (goal.at.returns-then-is_turned c).Start)),
      minus (nth m 2),
      minus (nth m 1),
    ) (sym (round_is (of_list m)) ∙ (positions s.requires.0).followed_round (of_list m)
    (sym c.is_turned.ensures ∙ c.if-is_turned.true))

pub returns : goal.returns
returns c =
    let s = c in
    (positions s.requires.0).followed_upright (of_list s.args.m) (sym c.is_turned.ensures ∙ c.if-is_turned.false)
