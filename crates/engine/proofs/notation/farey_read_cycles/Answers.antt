-- `farey_read_cycles` meets its contract (`call_made`, `read_says`). Assumes nothing.
use Rattle.call.proofs.Laws.{call_made}
use lib.ListN.{length}
use Rattle.cycle_reading.specs.Reading.{read_r, read_s, cycles_check}
use Rattle.engine.proofs.Numbers.{results_numbered, above_cycles}
use Rattle.engine.proofs.CycleCalls.{read_says}
use borrow.Author.Rules.{rules}
use Rattle.engine.proofs.notation.farey_read_cycles.Goals as goal

pub returns : goal.returns
returns c =
    let q = c.read_cycles in
    let st = c in
    let k = c.of_filled-said.ensures in
    call_made _ (results_numbered (cycles_check st.args.text.now) (above_cycles st.args.text.now) (length (read_s st.args.text.now))
    (length (read_r st.args.text.now)) st.args.s.now st.args.r.now)
    (read_says st.args.text.now st.args.s.now st.args.r.now _ _ q.ensures.leaves) q.ensures k.0 k.1
