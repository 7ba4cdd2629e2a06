use mathlib.Core.Path.{sym, ◌∙◌}
use native.Mathlib.Omega.{arith}
use Rattle.figures.specs.Cusps.{is_fixed}
use Rattle.call.specs.Space.{entries}
use Rattle.numbering.proofs.Those.{those_few}
use Rattle.figures.proofs.Scan.{part_entry, fixed_yes, fixed_no}
use Rattle.figures.proofs.fixed_points.Goals.{then-from-i, else-from-i}
use Rattle.figures.proofs.fixed_points.Goals as goal

pub overflow_add-count : goal.overflow_add-count
overflow_add-count c =
    let args = c.args in
    let x = part_entry c.requires.fits c.loop-i-test.true c.from.ensures in
    omega (arith, x.low, c.loop-i.invariant, those_few (is_fixed (entries args.off args.n args.w.now)) c.loop-i.i)

pub loop-i-preserved : goal.loop-i-preserved
loop-i-preserved c =
    let t = entries c.args.off c.args.n c.args.w.now in
    let x = (part_entry c.requires.fits c.loop-i-test.true c.from.ensures).is in
    let i = c.loop-i.i in
    elim c.if-from-i.branch [
      | then-from-i a ↦ a.count-is ∙ (rw c.loop-i.invariant (sym (fixed_yes t i (sym x ∙ a.if-from-i.true))))
      | else-from-i a ↦ a.count-is ∙ c.loop-i.invariant ∙ sym (fixed_no t i (λ e. a.if-from-i.false (x ∙ e)))
    ]
