-- `sign_of_s` reads the sign that is noted for p; the step keeps its equation (`step_equation`). Assumes nothing.
use native.Mathlib.Omega.{arith}
use mathlib.Core.Path.{refl}
use Rattle.matrix.specs.Words.{S}
use Rattle.polygon.specs.Step.{step_s, written}
use Rattle.polygon.proofs.Flip.{real_in}
use Rattle.coset.proofs.Positions.{crossing_equation}
use borrow.Author.Rules.{rules}
use Rattle.coset.proofs.steps.sign_of_s.Goals as goal

pub overflow_add-result : goal.overflow_add-result
overflow_add-result c =
    omega (arith, real_in c.args.v c.args.t.now c.requires.0.tables.symbol c.args.p c.requires.1, c.requires.0.tables.symbol.most)

pub offset_bounds-w-p : goal.offset_bounds-w-p
offset_bounds-w-p c =
    omega (arith, real_in c.args.v c.args.t.now c.requires.0.tables.symbol c.args.p c.requires.1, c.requires.0.tables.symbol.most)

pub bounds-w-p : goal.bounds-w-p
bounds-w-p c =
    let s = c in
    omega (
      arith,
      real_in s.args.v s.args.t.now s.requires.0.tables.symbol s.args.p s.requires.1,
      s.requires.0.tables.symbol.most,
      s.requires.0.tables.long,
    )

pub returns : goal.returns
returns c =
    let s = c in
    let v = s.args.v in
    let t = s.args.t.now in
    let p = s.args.p in
    let ok = s.requires.0.tables.symbol in
    let e = s.requires.0.signs p (real_in v t ok p s.requires.1) s.requires.1 in
    record { value = e; step_equation = crossing_equation v t ok p (step_s v t p) (written v t S p) _ s.requires.1 refl refl e }
