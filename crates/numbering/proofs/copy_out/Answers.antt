use native.Mathlib.Omega.{arith}
use lib.ListN.{length-set}
use Rattle.numbering.proofs.Space.{copy_more}
use Rattle.numbering.proofs.copy_out.Goals as goal

pub loop-j-preserved : goal.loop-j-preserved
loop-j-preserved c =
    let args = c.args in
    let pre = c.requires in
    let loop = c.loop-j in
    let from = c.from in (
      rw loop.invariant.0 (copy_more args.off loop.j from.result args.w.now args.out.now (omega (arith, pre.fits)) (omega (arith, pre.room))
          from.ensures),
      simp length-set loop.invariant.1,
    )
