-- `corner_zero`, by the corner. Assumes nothing.
use borrow.Author.Rules.{rules}
use mathlib.Core.Path.{◌≡◌, refl, sym, ◌∙◌, ap}
use borrow.Author.Tests.{eq-eqb, ne_eqb}
use Rattle.containment.proofs.following.corner_zero.Goals as goal

pub returns-then-c-eq0 : goal.returns-then-c-eq0
returns-then-c-eq0 c = let a = c.args in rw (eq-eqb a.c 0 c.if-c-eq0.true) refl

pub returns-then-c-eq1 : goal.returns-then-c-eq1
returns-then-c-eq1 c =
    let f = c in
    let a = f.args in
    rw (ne_eqb a.c 0 f.if-c-eq0.false, eq-eqb a.c 1 f.if-c-eq1.true) c.turn.ensures

pub returns : goal.returns
returns c =
    let f = c in
    let a = f.args in
    rw (ne_eqb a.c 0 f.if-c-eq0.false, ne_eqb a.c 1 f.if-c-eq1.false) c.turn_q.ensures
