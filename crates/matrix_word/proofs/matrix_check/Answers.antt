-- `matrix_check` makes refusals 28 and 9 in their order. Why the determinant may be asked for: no entry is too large (`small_of`). Assumes nothing.
use Rattle.std.specs.Prelude.{Err}
use mathlib.Core.Path.{◌≡◌, sym, ◌∙◌, ap}
use Prim.Native.Nat.{ℕ, ◌≤◌, ◌^◌}
use native.Mathlib.Omega.{arith}
use lib.Dec.{lit≤}
use lib.ListN.{length}
use Rattle.basics.specs.Count.{first}
use Rattle.matrix.specs.Matrix.{of_list}
use Rattle.matrix.proofs.Bounds.{small_more}
use Rattle.call.specs.declared.refusal.Refusal.TheVariants.{LargeEntry}
use Rattle.matrix_word.specs.Answer.{most_entry, oversized}
use Rattle.matrix_word.proofs.Checks.{small_of, entry_refused, unit_refused, matrix_passes}
use Rattle.matrix_word.proofs.matrix_check.Goals.{Else-i-lt4}
use Rattle.matrix_word.proofs.matrix_check.Goals as goal

none_large : (c : Else-i-lt4) → 4 ≤ first (oversized c.args.m) 4
none_large c =
    let four : length c.args.m ≡ 4 = omega arith in
    omega (arith, c.first_beyond-i.ensures ∙ ap (first (oversized c.args.m)) four, c.if-i-lt4.false)

pub returns-then-i-lt4 : goal.returns-then-i-lt4
returns-then-i-lt4 c =
    let four : length c.args.m ≡ 4 = omega arith in
    let i = c.first_beyond-i.ensures ∙ ap (first (oversized c.args.m)) four in
    ap (λ (k : ℕ). Err (LargeEntry k)) i ∙ entry_refused c.args.m (omega (arith, i, c.if-i-lt4.true))

pub determinant_is_one-requires : goal.determinant_is_one-requires
determinant_is_one-requires c =
    let m = c.args.m in
    small_more most_entry (2 ^ 60) (of_list m) (lit≤ tt) (small_of m (none_large (goal.at.determinant_is_one-requires c).Else-i-lt4))

pub returns-then-not-determinant_is_one : goal.returns-then-not-determinant_is_one
returns-then-not-determinant_is_one c =
    let u = c.determinant_is_one in
    unit_refused c.args.m (none_large (goal.at.returns-then-not-determinant_is_one c).Else-i-lt4) (sym u.ensures ∙ c.if-not-determinant_is_one.true)

pub returns : goal.returns
returns c =
    let u = c.determinant_is_one in
    matrix_passes c.args.m (none_large (goal.at.returns c).Else-i-lt4) (sym u.ensures ∙ c.if-not-determinant_is_one.false)
