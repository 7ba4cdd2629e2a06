-- `turn` is S. Assumes nothing.
use Rattle.congruence_equations.proofs.Landing.{lands_turn, lands_go, lands_back, lands_then}
use Rattle.congruence_equations.specs.Inner.Places.{turn_at, go_at, back_at}
use native.Mathlib.Omega.{arith}
use mathlib.Core.Path.{◌∙◌, ap}
use borrow.Author.Rules.{rules}
use Rattle.congruence_equations.proofs.turn.Goals as goal

pub returns : goal.returns
returns c = let s = c in lands_turn s.requires.0 s.args.y _ s.requires.1 c.index.ensures
