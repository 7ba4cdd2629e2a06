-- `turns`: both sides, one after the other. Assumes nothing.
use Rattle.congruence_equations.proofs.Landing.{lands_then, tells_eq, here}
use Rattle.congruence_equations.specs.Inner.Places.{turn_at, go_at, weyl_at, diagonal_at, beside_at}
use native.Mathlib.Omega.{arith}
use native.Mathlib.Nat.{mod-lt}
use Prim.Native.Nat.{ℕ, ◌*◌}
use Rattle.prime_units.proofs.Numbers.{product_low}
use borrow.Author.Rules.{rules}
use Rattle.congruence_equations.proofs.turns.Goals as goal

pub overflow_mul-g : goal.overflow_mul-g
overflow_mul-g c =
    let s = c in
    omega (
      arith,
      product_low s.args.g s.args.g 4096 4096 (omega (arith, s.requires.1.g_low, s.requires.1.q_low))
          (omega (arith, s.requires.1.g_low, s.requires.1.q_low)),
    )

pub go-e-requires : goal.go-e-requires
go-e-requires c =
    let s = c in (
      s.requires.0,
      omega (arith, mod-lt (s.args.g * s.args.g) {m = s.args.q} (omega (arith, s.requires.1.g_some, s.requires.1.g_low)), s.requires.1.q_low),
      s.requires.2,
    )

pub returns : goal.returns
returns c =
    let a = c.args in
    let n = a.n in
    let w = a.w.now in
    tells_eq (lands_then (go_at n w 1) c.diagonal-d.ensures c.go-a.ensures)
    (lands_then (λ (z : ℕ). diagonal_at n w a.q a.g a.h z) c.go-e.ensures c.diagonal-b.ensures)
