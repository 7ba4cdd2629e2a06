-- `beside` is S, X 1, T^-1, S. Assumes nothing.
use Rattle.congruence_equations.proofs.Landing.{lands_turn, lands_go, lands_back, lands_then}
use Rattle.congruence_equations.specs.Inner.Places.{turn_at, go_at, back_at}
use native.Mathlib.Omega.{arith}
use mathlib.Core.Path.{◌∙◌, ap}
use borrow.Author.Rules.{rules}
use Rattle.congruence_equations.proofs.beside.Goals as goal

pub returns : goal.returns
returns c =
    let a = c.args in
    let n = a.n in
    let w = a.w.now in
    lands_then (turn_at w) (lands_then (back_at n w) (lands_then (go_at n w 1) c.turn-z.ensures c.go-k.ensures)
    c.back-l.ensures) c.turn.ensures
