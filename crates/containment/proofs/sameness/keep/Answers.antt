use borrow.Author.Rules.{rules}
use mathlib.Core.Path.{◌≡◌, refl}
use mathlib.Core.List.{◌++◌}
use Prim.Native.Nat.{◌-◌, ◌≤◌}
use native.Mathlib.Omega.{arith}
use lib.ListN.{length, drop, length-set}
use Rattle.call.specs.Space.{entries}
use Rattle.numbering.proofs.Space.{copy_more}
use Rattle.containment.proofs.sameness.keep.Goals as goal

pub loop-j-init : goal.loop-j-init
loop-j-init c = (refl, omega arith, refl)

pub loop-j-preserved : goal.loop-j-preserved
loop-j-preserved c =
    let l = c in
    let args = l.args in
    let pre = l.requires in
    let loop = l.loop-j in (
      rw loop.invariant.0 (copy_more args.off loop.j _ args.w.now args.out.now (omega (arith, pre.1)) (omega (arith, pre.2)) refl),
      omega arith,
      simp length-set loop.invariant.2,
    )

pub returns : goal.returns
returns c = let e : c.loop-j.j ≡ c.args.n = omega arith in rw e at c.loop-j.invariant.0
