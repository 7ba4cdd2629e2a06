-- `residues::signed_row` gives the row where it is first (`row_same`), and its negative where that is (`row_turned`).
-- Assumes nothing.
use borrow.Author.Rules.{rules}
use Rattle.congruence_tables.proofs.Signs.{row_same, row_turned}
use Rattle.congruence_tables.proofs.residues.signed_row.Goals as goal

pub returns-then-not-turns : goal.returns-then-not-turns
returns-then-not-turns c =
    let a = c in
    let s = a in
    row_same s.args.n s.args.c s.args.d s.requires.0.some s.requires.1 s.requires.2 a.turns.ensures c.if-not-turns.true

pub returns : goal.returns
returns c =
    let d = c in
    let a = d in
    let s = a in
    row_turned s.args.n s.args.c s.args.d s.requires.0.some s.requires.1 s.requires.2 a.turns.ensures
    d.if-not-turns.false c.opposite.ensures c.opposite-2.ensures
