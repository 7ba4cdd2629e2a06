-- `symbol_by` meets its contract (`call_made`, `import_says_lem`). Assumes nothing.
use Rattle.import_symbol.specs.Answer.{order_by}
use Rattle.call.proofs.Laws.{call_made}
use Rattle.import_call.proofs.Means.{import_says_lem}
use borrow.Author.Rules.{rules}
use Rattle.permutations.specs.Check.{pair_check}
use Rattle.import_rule.specs.Symbol.{ruled_by}
use Rattle.import_call.specs.Import.{needed_length}
use Rattle.engine.proofs.Lent.{lent_to}
use Rattle.engine.proofs.Numbers.{symbol_numbered, above_pair}
use Rattle.engine.proofs.imports.symbol_by.Goals as goal

pub returns : goal.returns
returns c =
    let q = c.import_by in
    let s = c in
    let w = lent_to s.args.w q.new.w in
    let out = lent_to s.args.out q.new.out in
    let k = c.of_filled-said.ensures in
    call_made _ (symbol_numbered (pair_check s.args.s.now s.args.r.now) (above_pair s.args.s.now s.args.r.now) s.args.w.now
    (needed_length s.args.r.now) (ruled_by (order_by s.args.wide) s.args.s.now s.args.r.now) s.args.out.now)
    (import_says_lem (order_by s.args.wide) s.args.s.now s.args.r.now w out q.ensures.leaves) q.ensures
    k.0 k.1
