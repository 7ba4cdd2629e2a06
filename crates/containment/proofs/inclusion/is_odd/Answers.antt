-- `is_odd_is`: an odd side has -3. Assumes nothing.
use borrow.Author.Rules.{rules}
use mathlib.Core.Path.{◌∙◌, ap, sym}
use Prim.Native.Nat.{◌+◌, ◌*◌}
use lib.IntN.{ℤ, pos, negsuc}
use lib.Seq.{get_or-drop}
use Rattle.matrix.specs.Matrix.{nth}
use Rattle.symbol.specs.Check.{eq_z}
use Rattle.symbol.proofs.Order.{is_minus_three}
use Rattle.containment.proofs.inclusion.is_odd.Goals as goal

pub returns : goal.returns
returns c =
    let s = c in
    let v = s.args.v in
    let t = s.args.t.now in
    let i = s.args.i in
    is_minus_three (nth t (2 * v + i)) (record { sfits = c.x-1.given }) ∙ ap (λ (z : ℤ). eq_z z (negsuc 2)) (sym (get_or-drop (2 * v) t i (pos 0)))
