-- `low` is S, X a, S. Assumes nothing.
use Rattle.congruence_equations.proofs.Landing.{lands_turn, lands_go, lands_back, lands_then}
use Rattle.congruence_equations.specs.Inner.Places.{turn_at, go_at, back_at}
use native.Mathlib.Omega.{arith}
use mathlib.Core.Path.{◌∙◌, ap}
use borrow.Author.Rules.{rules}
use Rattle.congruence_equations.proofs.low.Goals as goal

pub returns : goal.returns
returns c =
    let a = c.args in
    lands_then (turn_at a.w.now) (lands_then (go_at a.n a.w.now a.a) c.turn-z.ensures c.go-k.ensures)
    c.turn.ensures
