-- `product_at`: both sides, one after the other. Assumes nothing.
use Prim.Native.Nat.{ℕ}
use native.Mathlib.Omega.{arith}
use Rattle.prime_units.proofs.Numbers.{product_low}
use Rattle.congruence_equations.specs.Inner.Places.{diagonal_at}
use Rattle.congruence_equations.proofs.Landing.{lands_then, tells_eq}
use borrow.Author.Rules.{rules}
use Rattle.congruence_equations.proofs.product_at.Goals as goal

pub overflow_mul-g : goal.overflow_mul-g
overflow_mul-g c =
    let s = c in
    omega (
      arith,
      product_low s.args.g s.args.g2 4096 4096 (omega (arith, s.requires.1.g_low, s.requires.1.q_low))
          (omega (arith, s.requires.2.g_low, s.requires.2.q_low)),
    )

pub overflow_mul-h : goal.overflow_mul-h
overflow_mul-h c =
    let s = c in
    omega (
      arith,
      product_low s.args.h s.args.h2 4096 4096 (omega (arith, s.requires.1.h_low, s.requires.1.q_low))
          (omega (arith, s.requires.2.h_low, s.requires.2.q_low)),
    )

pub returns : goal.returns
returns c =
    let a = c.args in
    let n = a.n in
    let w = a.w.now in
    tells_eq (lands_then (λ (z : ℕ). diagonal_at n w a.q a.g2 a.h2 z) c.diagonal-d.ensures c.diagonal-a.ensures)
    c.diagonal-b.ensures
