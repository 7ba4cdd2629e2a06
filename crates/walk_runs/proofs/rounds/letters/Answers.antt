-- `letters` adds the letters of S and those of a turn; there is one at most of each. Assumes nothing.
use native.Mathlib.Omega.{arith}
use Rattle.matrix.specs.Words.{S, Q}
use Rattle.coset.proofs.Positions.{positions}
use Rattle.walk_runs.proofs.rounds.letters.Goals as goal

pub overflow_add-result : goal.overflow_add-result
overflow_add-result c =
    let s = c in
    let g = (positions s.requires.0.tables.symbol).polygon in
    omega (arith, c.letters_of_s-first.ensures, c.letters_of_turn.ensures, g.short S s.args.p, g.short Q s.args.to)

pub returns : goal.returns
returns c = omega (arith, c.letters_of_s-first.ensures, c.letters_of_turn.ensures)
