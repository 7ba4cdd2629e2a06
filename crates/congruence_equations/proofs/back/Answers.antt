-- `back` is T⁻¹: one step less than the width. Assumes nothing.
use Rattle.congruence_equations.proofs.Landing.{lands_back}
use native.Mathlib.Omega.{arith}
use mathlib.Core.Path.{◌∙◌, ap}
use mathlib.Core.Bool.{true}
use Prim.Native.Nat.{ℕ, ◌-◌}
use Rattle.figures.specs.Inner.Scan.{held_t}
use Rattle.same_coset.specs.Inner.Places.{run_place}
use Rattle.same_coset.proofs.Places.{width_low}
use borrow.Author.Rules.{rules}
use Rattle.congruence_equations.proofs.back.Goals as goal

pub overflow_sub-d : goal.overflow_sub-d
overflow_sub-d c =
    let s = c in
    omega (arith, c.index-d.ensures, (width_low s.requires.0 s.args.y s.requires.1).0)

pub returns : goal.returns
returns c =
    let s = c in
    lands_back s.requires.0 s.args.y _ s.requires.1
    (c.run_on.ensures ∙ ap (λ (z : ℕ). run_place (held_t s.args.n s.args.w.now) true (z - 1) s.args.y) c.index-d.ensures)
