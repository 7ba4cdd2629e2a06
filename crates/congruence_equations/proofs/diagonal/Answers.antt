-- `diagonal` is the diagonal map of g. Assumes nothing.
use Prim.Native.Nat.{◌+◌, ◌-◌}
use Rattle.congruence_equations.proofs.Landing.{lands_turn, lands_go, lands_back, lands_then}
use Rattle.congruence_equations.specs.Inner.Places.{turn_at, go_at, back_at}
use native.Mathlib.Omega.{arith}
use mathlib.Core.Path.{◌∙◌, ap}
use borrow.Author.Rules.{rules}
use Rattle.congruence_equations.proofs.diagonal.Goals as goal

pub returns : goal.returns
returns c =
    let a = c.args in
    let n = a.n in
    let w = a.w.now in
    let q = a.q in
    lands_then (go_at n w (q - a.h)) (lands_then (λ z. turn_at w (go_at n w (q + 1 - a.g) (turn_at w z)))
    (lands_then (go_at n w 1) c.low-z.ensures c.go-k.ensures) c.low-l.ensures) c.go.ensures
