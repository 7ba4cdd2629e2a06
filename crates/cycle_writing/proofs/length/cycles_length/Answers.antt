use mathlib.Core.Path.{sym, ap, ◌∙◌}
use native.Mathlib.Omega.{arith}
use lib.ListN.{length}
use Rattle.cycle_writing.proofs.Sizes.{bytes_none, bytes_kept, size_more}
use Rattle.cycle_writing.proofs.length.cycles_length.Goals as goal
use Rattle.cycle_writing.proofs.length.cycles_length.Goals.{then-is_start, else-is_start}

pub loop-x-init : goal.loop-x-init
loop-x-init c = record { counted = ap length (bytes_none c.args.t.now); most = omega arith }

pub loop-x-preserved : goal.loop-x-preserved
loop-x-preserved c =
    let q = c.loop-x in
    let t = c.args.t.now in elim c.if-is_start.branch [
      | then-is_start w ↦ record {
        counted = omega (arith, w.k-is, q.invariant.counted, w.cycle_length-k.ensures, size_more t q.x);
        most = omega (arith, w.k-is, q.invariant.most, w.cycle_length-k.ensures);
      }
      | else-is_start w ↦ record {
        counted = w.k-is ∙ q.invariant.counted ∙ ap length (bytes_kept t q.x (sym c.is_start.ensures ∙ w.if-is_start.false));
        most = omega (arith, w.k-is, q.invariant.most);
      }
    ]
