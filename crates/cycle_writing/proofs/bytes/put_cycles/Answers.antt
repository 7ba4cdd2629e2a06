use mathlib.Core.Path.{sym, ◌∙◌}
use native.Mathlib.Omega.{arith}
use lib.ListN.{length}
use Rattle.decimal.proofs.Placing.{puts_as, puts_none, puts_then}
use Rattle.cycle_writing.proofs.Sizes.{bytes_none, bytes_more, bytes_kept, bytes_room}
use Rattle.cycle_writing.proofs.bytes.put_cycles.Goals as goal
use Rattle.cycle_writing.proofs.bytes.put_cycles.Goals.{then-is_start, else-is_start}

pub loop-x-init : goal.loop-x-init
loop-x-init c = record { stand = puts_as (bytes_none c.args.t.now) (puts_none c.args.at c.args.out.now); long = omega arith }

pub put_cycle-end-requires : goal.put_cycle-end-requires
put_cycle-end-requires c =
    let q = c.loop-x in
    let t = c.args.t.now in (
      record { table = c.requires.0; below = c.loop-x-test.true; begins = sym c.is_start.ensures ∙ c.if-is_start.true },
      omega (arith, q.invariant.stand.end_is, q.invariant.long, bytes_room t q.x (length t) c.loop-x-test.true, c.requires.1),
    )

pub loop-x-preserved : goal.loop-x-preserved
loop-x-preserved c =
    let q = c.loop-x in
    let t = c.args.t.now in record {
      stand = elim c.if-is_start.branch [
        | then-is_start w ↦ rw (w.end-is, w.out-is)
            (puts_as (bytes_more t q.x) (puts_then q.invariant.stand w.put_cycle-end.ensures (omega (arith, c.requires.1))))
        | else-is_start w ↦ rw (w.end-is, w.out-is) (puts_as (bytes_kept t q.x (sym c.is_start.ensures ∙ w.if-is_start.false)) q.invariant.stand)
      ];
      long = omega (arith, c.if-is_start.auto.out, q.invariant.long);
    }
