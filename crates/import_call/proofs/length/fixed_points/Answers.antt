use mathlib.Core.Path.{◌≡◌, refl, sym, ◌∙◌}
use mathlib.Core.Logic.{⊎_elim}
use Prim.Native.Nat.{◌-◌, ◌≤◌}
use native.Mathlib.Omega.{arith}
use lib.ListN.{length}
use Rattle.basics.specs.Count.{those}
use Rattle.numbering.proofs.Those.{those_few}
use Rattle.figures.specs.Cusps.{is_fixed}
use Rattle.figures.proofs.Scan.{fixed_yes, fixed_no}
use borrow.Author.Rules.{rules}
use Rattle.import_call.proofs.length.fixed_points.Goals.{then-x-i, else-x-i}
use Rattle.import_call.proofs.length.fixed_points.Goals as goal

pub loop-i-init : goal.loop-i-init
loop-i-init c = (omega arith, refl)

pub overflow_add-count : goal.overflow_add-count
overflow_add-count c =
    let loop = c.loop-i in
    let s = c in
    omega (arith, loop.invariant.1, those_few (is_fixed s.args.r.now) loop.i, s.requires)

pub loop-i-preserved : goal.loop-i-preserved
loop-i-preserved c =
    let loop = c.loop-i in
    let r = c.args.r.now in
    let x = c.wide-x.ensures in
    elim c.if-x-i.branch [
      | then-x-i a ↦ (omega arith, a.count-is ∙ (rw loop.invariant.1 (sym (fixed_yes r loop.i (sym x ∙ a.if-x-i.true)))))
      | else-x-i a ↦ (omega arith, a.count-is ∙ loop.invariant.1 ∙ sym (fixed_no r loop.i (λ e. a.if-x-i.false (x ∙ e))))
    ]

pub returns : goal.returns
returns c =
    let loop = c.loop-i in
    let r = c.args.r.now in
    let e : loop.i ≡ length r = omega arith in
    let f = rw e at loop.invariant.1 in
    (f, omega (arith, those_few (is_fixed r) (length r)))
