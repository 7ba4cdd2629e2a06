-- `is_listed` has three ways out: -1, another negative number, a natural number. Assumes nothing.
use mathlib.Core.Path.{sym, ap, ◌∙◌}
use Prim.Native.Nat.{ℕ}
use lib.Dec.{lit<, ltb}
use lib.IntN.{ℤ}
use mir.Facts.{to_z-of_z}
use mir.Syntax.{w64}
use mir.Val.{of_z}
use Rattle.symbol.proofs.Signed.{bits_negative}
use Rattle.towers.specs.Tower.{listed_before}
use Rattle.towers.proofs.Checks.{negative_unlisted, natural_listed}
use Rattle.towers.proofs.is_listed.Goals as goal

pub returns-then-x-eqminus1 : goal.returns-then-x-eqminus1
returns-then-x-eqminus1 c =
    let s = c in
    sym (ap (λ (x : ℤ). listed_before x s.args.e) (bits_negative s.args.x 0 s.ranges.x (lit< tt) c.if-x-eqminus1.true))

pub returns-then-x-lt0 : goal.returns-then-x-lt0
returns-then-x-lt0 c =
    let s = c in
    negative_unlisted s.args.x s.args.e (rw (to_z-of_z s.ranges.x) at c.if-x-lt0.true) (λ z. c.if-x-eqminus1.false (ap (of_z w64) z))

pub returns : goal.returns
returns c =
    let e = c in
    let s = e in
    let q = to_z-of_z s.ranges.x in
    ap (λ (k : ℕ). ltb k s.args.e) (rw q at c.or_zero.ensures) ∙ natural_listed s.args.x s.args.e (rw q at e.if-x-lt0.false)
