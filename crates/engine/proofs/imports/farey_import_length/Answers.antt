-- `farey_import_length` meets its contract (`call_made`, `length_says`). Assumes nothing.
use Rattle.call.proofs.Laws.{call_made}
use Rattle.import_call.proofs.Means.{length_says}
use borrow.Author.Rules.{rules}
use Rattle.engine.proofs.Numbers.{above_pair}
use Rattle.engine.proofs.imports.farey_import_length.Goals as goal

pub returns : goal.returns
returns c =
    let q = c.import_length in
    let s = c in
    let k = c.of_filled-said.ensures in
    call_made _ (above_pair s.args.s.now s.args.r.now, tt)
    (length_says s.args.s.now s.args.r.now) q.ensures k.0 k.1
