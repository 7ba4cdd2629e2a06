-- `weyl` is X 1, S, X 1, S, X 1. Assumes nothing.
use Rattle.congruence_equations.proofs.Landing.{lands_turn, lands_go, lands_back, lands_then}
use Rattle.congruence_equations.specs.Inner.Places.{turn_at, go_at, back_at}
use native.Mathlib.Omega.{arith}
use mathlib.Core.Path.{◌∙◌, ap}
use borrow.Author.Rules.{rules}
use Rattle.congruence_equations.proofs.weyl.Goals as goal

pub returns : goal.returns
returns c =
    let a = c.args in
    let n = a.n in
    let w = a.w.now in
    lands_then (go_at n w 1) (lands_then (λ z. turn_at w (go_at n w 1 (turn_at w z))) c.go-z.ensures c.low-k.ensures) c.go.ensures
