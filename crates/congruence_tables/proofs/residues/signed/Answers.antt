-- `signed` gives x where its bottom row is first (`signed_same`), and -x where that of -x is (`signed_turned`).
-- Assumes nothing.
use borrow.Author.Rules.{rules}
use Rattle.congruence_tables.proofs.Signs.{signed_same, signed_turned}
use Rattle.congruence_tables.proofs.residues.signed.Goals as goal

pub returns-then-not-turns : goal.returns-then-not-turns
returns-then-not-turns c =
    let a = c in
    let s = a in
    signed_same s.args.n s.args.x s.requires.1 a.turns.ensures c.if-not-turns.true

pub returns : goal.returns
returns c =
    let d = c in
    let a = d in
    let s = a in
    signed_turned s.args.n s.args.x _ s.requires.0.some s.requires.1 a.turns.ensures d.if-not-turns.false
    (rw (c.opposite.ensures, c.opposite-2.ensures, c.opposite-3.ensures, c.opposite-4.ensures))
