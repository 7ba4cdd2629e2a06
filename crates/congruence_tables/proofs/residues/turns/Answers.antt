-- `turns` compares c with -c and, where they are equal, d with -d.
-- Assumes nothing.
use borrow.Author.Rules.{rules}
use Rattle.congruence_tables.proofs.Signs.{turns_yes, turns_no, turns_by}
use native.Mathlib.Omega.{arith}
use Rattle.congruence_tables.proofs.residues.turns.Goals as goal

pub returns-then-p-c : goal.returns-then-p-c
returns-then-p-c c = let a = c in let s = a.args in turns_yes s.n s.c s.d a.opposite-p.result a.opposite-p.ensures (omega arith)

pub returns-then-c-p : goal.returns-then-c-p
returns-then-c-p c = let a = c in let s = a.args in turns_no s.n s.c s.d a.opposite-p.result a.opposite-p.ensures (omega arith)

pub returns : goal.returns
returns c =
    let a = c in
    let s = a.args in
    turns_by s.n s.c s.d a.opposite-p.result a.opposite-p.ensures (omega arith) (omega arith) c.opposite.result c.opposite.ensures
