use mathlib.Core.Path.{◌≡◌, refl}
use mathlib.Core.List.{◌++◌}
use Prim.Native.Nat.{◌-◌, ◌≤◌}
use native.Mathlib.Omega.{arith}
use lib.ListN.{length, take, drop, length-set}
use borrow.Author.Rules.{rules}
use Rattle.matrix.specs.Matrix.{nth}
use Rattle.matrix.proofs.Bounds.{kept}
use Rattle.partner_exchange.proofs.Copied.{copied_more, copied_all}
use Rattle.partner_exchange.proofs.copy_table.Goals as goal

pub loop-j-init : goal.loop-j-init
loop-j-init c = (refl, omega arith, refl)

pub loop-j-preserved : goal.loop-j-preserved
loop-j-preserved c =
    let l = c in
    let s = l in
    let t = s.args.t.now in (
      rw l.loop-j.invariant.0 (copied_more t s.args.out.now l.loop-j.j _ (omega arith) (omega (arith, s.requires)) (kept (nth t l.loop-j.j) c.out-1.given)),
      omega arith,
      simp length-set l.loop-j.invariant.2,
    )

pub returns : goal.returns
returns c =
    let l = c in
    let s = l in
    copied_all s.args.t.now s.args.out.now _ l.loop-j.j (omega arith) (omega arith) l.loop-j.invariant.0
