-- `lay` notes y and its turns, which are places (`turn_low`). Assumes nothing.
use borrow.Author.Rules.{rules}
use mathlib.Core.Path.{refl}
use native.Mathlib.Omega.{arith}
use lib.ListN.{length-set}
use Rattle.polygon.specs.Step.{turn_q}
use Rattle.coset.proofs.Work.{turn_low}
use Rattle.containment.proofs.following.lay.Goals as goal

pub overflow_cast-w-2 : goal.overflow_cast-w-2
overflow_cast-w-2 c =
    let s = c in
    omega (arith, c.turn_q-forth.ensures, turn_low s.args.v s.args.y s.requires.0 s.requires.3, s.requires.1)

pub bounds-w-p-2 : goal.bounds-w-p-2
bounds-w-p-2 c = simp length-set (omega arith)

pub overflow_cast-w-3 : goal.overflow_cast-w-3
overflow_cast-w-3 c =
    let s = c in
    let v = s.args.v in
    omega (arith, c.turn-back.ensures, turn_low v (turn_q v s.args.y) s.requires.0 (turn_low v s.args.y s.requires.0 s.requires.3), s.requires.1)

pub bounds-w-p-3 : goal.bounds-w-p-3
bounds-w-p-3 c = simp length-set (omega arith)

pub returns : goal.returns
returns c = rw (c.turn_q-forth.ensures, c.turn-back.ensures) refl
