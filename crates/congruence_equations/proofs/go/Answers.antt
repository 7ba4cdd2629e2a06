-- `go` is X a. Assumes nothing.
use Rattle.congruence_equations.proofs.Landing.{lands_turn, lands_go, lands_back, lands_then}
use Rattle.congruence_equations.specs.Inner.Places.{turn_at, go_at, back_at}
use native.Mathlib.Omega.{arith}
use mathlib.Core.Path.{◌∙◌, ap}
use mathlib.Core.Bool.{true}
use Prim.Native.Nat.{ℕ, ◌+◌, ◌*◌}
use Rattle.figures.specs.Inner.Scan.{held_t}
use Rattle.same_coset.specs.Inner.Places.{run_place}
use Rattle.prime_units.proofs.Numbers.{product_low}
use borrow.Author.Rules.{rules}
use Rattle.congruence_equations.proofs.go.Goals as goal

pub overflow_mul-a : goal.overflow_mul-a
overflow_mul-a c =
    omega (
      arith,
      product_low c.args.a c.index-e.result 4096 65535 c.requires.1
          (omega (arith, c.index-e.ensures, (c.type_inv.w (8192 + c.args.y)).fits)),
    )

pub returns : goal.returns
returns c =
    let s = c in
    lands_go s.requires.0 s.args.a s.args.y _ s.requires.2
    (c.run_on.ensures ∙ ap (λ (z : ℕ). run_place (held_t s.args.n s.args.w.now) true (s.args.a * z) s.args.y)
    c.index-e.ensures)
