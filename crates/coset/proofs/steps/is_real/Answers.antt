-- `is_real`: a corner is a position (`real_low`), and an outer face is one exactly where its side's pairing is -3 (`real_high`).
-- Assumes nothing.
use mathlib.Core.Path.{◌∙◌, ap}
use lib.IntN.{ℤ, negsuc}
use Prim.Native.Nat.{◌+◌, ◌-◌, ◌*◌}
use Rattle.matrix.specs.Matrix.{nth}
use Rattle.symbol.specs.Check.{eq_z}
use Rattle.symbol.proofs.Order.{is_minus_three}
use Rattle.coset.proofs.Work.{face_entry}
use Rattle.coset.proofs.Noted.{real_low, real_high}
use borrow.Author.Rules.{rules}
use Rattle.coset.proofs.steps.is_real.Goals as goal

pub returns-then-p-b : goal.returns-then-p-b
returns-then-p-b c =
    let s = c in
    real_low s.args.v s.args.t.now s.args.p c.if-p-b.true

pub returns : goal.returns
returns c =
    let s = c in
    let v = s.args.v in
    let t = s.args.t.now in
    let p = s.args.p in
    is_minus_three (nth t (2 * v + (p - 3 * (v - 1)))) (record { sfits = c.x-1.given }) ∙ ap (λ (z : ℤ). eq_z z (negsuc 2)) (face_entry v t p)
    ∙ real_high v t p c.if-p-b.false
