-- `pair_check` makes refusals 8 and 9 in their order. Why determinants may be computed: they are asked for only where no entry of the pair is
-- large (`passed_small`). Assumes nothing.
use Rattle.std.specs.Prelude.{Err}
use mathlib.Core.Path.{sym, ◌∙◌, ap}
use Prim.Native.Nat.{ℕ, ◌≤◌}
use native.Mathlib.Omega.{arith}
use Rattle.basics.specs.Count.{first}
use Rattle.call.specs.declared.refusal.Refusal.TheVariants.{MatrixEntry}
use Rattle.word.specs.Answer.{large}
use Rattle.word.proofs.Order.{passed_small}
use Rattle.word.proofs.Refused.{pair_large, pair_A, pair_B, pair_passes}
use Rattle.word.proofs.pair_check.Goals.{Else-i-lt8}
use Rattle.word.proofs.pair_check.Goals as goal

-- no entry is too large
large_none : (c : Else-i-lt8) → 8 ≤ first (large c.args.a c.args.b) 8
large_none c = omega (arith, c.first_large-i.ensures, c.if-i-lt8.false)

pub returns-then-i-lt8 : goal.returns-then-i-lt8
returns-then-i-lt8 c =
    let s = c in
    let i = c.first_large-i in
    ap (λ (k : ℕ). Err (MatrixEntry k)) i.ensures ∙ pair_large s.args.a s.args.b (omega (arith, i.ensures, c.if-i-lt8.true))

pub is_unit-requires : goal.is_unit-requires
is_unit-requires c =
    let s = c in
    (passed_small s.args.a s.args.b (large_none (goal.at.is_unit-requires c).Else-i-lt8)).0

pub returns-then-not-is_unit : goal.returns-then-not-is_unit
returns-then-not-is_unit c =
    let s = c in
    pair_A s.args.a s.args.b (large_none (goal.at.returns-then-not-is_unit c).Else-i-lt8) (sym c.is_unit.ensures ∙ c.if-not-is_unit.true)

pub is_unit-requires-2 : goal.is_unit-requires-2
is_unit-requires-2 c =
    let s = c in
    (passed_small s.args.a s.args.b (large_none (goal.at.is_unit-requires-2 c).Else-i-lt8)).1

pub returns-then-not-is_unit-2 : goal.returns-then-not-is_unit-2
returns-then-not-is_unit-2 c =
    let s = c in
    pair_B s.args.a s.args.b (large_none (goal.at.returns-then-not-is_unit-2 c).Else-i-lt8)
    (sym c.is_unit.ensures ∙ c.if-not-is_unit.false) (sym c.is_unit-2.ensures ∙ c.if-not-is_unit-2.true)

pub returns : goal.returns
returns c =
    let s = c in
    pair_passes s.args.a s.args.b (record {
      entries = large_none (goal.at.returns c).Else-i-lt8;
      A = sym c.is_unit.ensures ∙ c.if-not-is_unit.false;
      B = sym c.is_unit-2.ensures ∙ c.if-not-is_unit-2.false;
    })
