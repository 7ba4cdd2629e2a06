use mathlib.Core.Path.{refl}
use native.Mathlib.Omega.{arith}
use lib.ListN.{length-set}
use Rattle.numbering.proofs.Space.{put_none}
use Rattle.numbering.proofs.Marks.{compose_low, compose_more}
use Rattle.numbering.proofs.compose.Goals as goal

pub loop-j-init : goal.loop-j-init
loop-j-init c = (put_none c.args.w.now c.args.to _, refl)

pub bounds-w-b : goal.bounds-w-b
bounds-w-b c =
    let pre = c.requires in
    let loop = c.loop-j in
    let wide = c.from-x in
    omega (arith, compose_low pre loop.invariant.0 (omega arith) wide.ensures)

pub loop-j-preserved : goal.loop-j-preserved
loop-j-preserved c =
    let pre = c.requires in
    let loop = c.loop-j in
    let wide = c.from-x in
    (compose_more pre loop.invariant.0 (omega arith) wide.ensures, simp length-set loop.invariant.1)
