-- `flips`: both sides, one after the other. Assumes nothing.
use Rattle.congruence_equations.proofs.Landing.{lands_then, tells_eq, here}
use Rattle.congruence_equations.specs.Inner.Places.{turn_at, go_at, weyl_at, diagonal_at, beside_at}
use native.Mathlib.Omega.{arith}
use native.Mathlib.Nat.{mod-lt}
use Prim.Native.Nat.{ℕ, ◌*◌}
use Rattle.prime_units.proofs.Numbers.{product_low}
use borrow.Author.Rules.{rules}
use Rattle.congruence_equations.proofs.flips.Goals as goal

pub returns : goal.returns
returns c =
    let a = c.args in
    let n = a.n in
    let w = a.w.now in
    let d : ℕ → ℕ = λ z. diagonal_at n w a.q a.g a.h z in
    tells_eq (lands_then d (lands_then (λ (z : ℕ). weyl_at n w z) c.diagonal-d.ensures c.weyl-e.ensures)
    c.diagonal-a.ensures) c.weyl-b.ensures
