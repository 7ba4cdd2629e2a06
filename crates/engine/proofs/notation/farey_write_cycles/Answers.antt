-- `farey_write_cycles` meets its contract (`call_made`, `write_says`). Assumes nothing.
use Rattle.call.proofs.Laws.{call_made}
use lib.ListN.{length}
use Rattle.permutations.specs.Check.{pair_check}
use Rattle.cycle_writing.specs.Bytes.{export_of}
use Rattle.engine.proofs.Numbers.{result_numbered, above_pair}
use Rattle.engine.proofs.Written.{write_says}
use borrow.Author.Rules.{rules}
use Rattle.engine.proofs.notation.farey_write_cycles.Goals as goal

pub returns : goal.returns
returns c =
    let q = c.write_cycles in
    let st = c in
    let k = c.of_filled-said.ensures in
    call_made _ (result_numbered (pair_check st.args.s.now st.args.r.now) (above_pair st.args.s.now st.args.r.now)
    (length (export_of st.args.s.now st.args.r.now)) st.args.out.now)
    (write_says st.args.s.now st.args.r.now st.args.out.now _ q.ensures.leaves) q.ensures k.0 k.1
