-- `fourths`: W four times. Assumes nothing.
use Rattle.congruence_equations.proofs.Landing.{lands_then, tells_eq, here}
use Rattle.congruence_equations.specs.Inner.Places.{turn_at, go_at, weyl_at, diagonal_at, beside_at}
use native.Mathlib.Omega.{arith}
use native.Mathlib.Nat.{mod-lt}
use Prim.Native.Nat.{ℕ, ◌*◌}
use Rattle.prime_units.proofs.Numbers.{product_low}
use borrow.Author.Rules.{rules}
use Rattle.congruence_equations.proofs.fourths.Goals as goal

pub returns : goal.returns
returns c =
    let a = c.args in
    let n = a.n in
    let w = a.w.now in
    let f : ℕ → ℕ = λ z. weyl_at n w z in
    tells_eq (lands_then f (lands_then f (lands_then f c.weyl-a.ensures c.weyl-b.ensures)
    c.weyl-c.ensures) c.weyl-d.ensures) (here c.requires.1)
