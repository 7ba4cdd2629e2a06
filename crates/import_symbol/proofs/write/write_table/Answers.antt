-- `write_table` writes the vertices and then the pairings behind them, which together are the symbol's table (`table_written_lem`).
-- Assumes nothing.
use mathlib.Core.Path.{◌≡◌, refl, sym, ◌∙◌, ap}
use native.Mathlib.Omega.{arith}
use Rattle.permutations.specs.Pair.{image}
use Rattle.import_rule.specs.Fixed.{by_q}
use Rattle.import_symbol.proofs.Written.{table_written_lem}
use borrow.Author.Rules.{rules}
use Rattle.import_symbol.proofs.write.write_table.Goals as goal

pub returns : goal.returns
returns c =
    let s = c in
    let sg = image s.args.s.now in
    let ka = by_q sg (image s.args.r.now) in
    table_written_lem sg ka s.args.w.now s.args.out.now _ _ s.args.d (let z = s.requires.0.some in omega arith) s.requires.1
    c.write_vertices.ensures c.write_pairings.ensures
