-- `letters_of_turn`: Q writes nothing at a corner, and one letter at an outer face. Assumes nothing.
use mathlib.Core.Path.{ap, ◌∙◌}
use Prim.Native.Nat.{◌-◌, ◌*◌}
use native.Mathlib.Omega.{arith}
use native.Mathlib.Decide.{dec_lt}
use mir.Val.{bool_byte}
use borrow.Author.Tests.{le-leb, lt-leb}
use Rattle.walk_runs.proofs.Counts.{turn_none, turn_one}
use Rattle.walk_runs.proofs.rounds.letters_of_turn.Goals as goal

pub returns : goal.returns
returns c =
    let p = c.args.p in
    let corners = 3 * (c.args.v - 1) in
    c.from.ensures ∙ elim (dec_lt p corners) [
      | yes l ↦ ap bool_byte (lt-leb corners p l) ∙ turn_none c.args.v c.args.t.now p l
      | no l ↦ ap bool_byte (le-leb corners p (omega arith)) ∙ turn_one c.args.v c.args.t.now p (omega arith)
    ]
