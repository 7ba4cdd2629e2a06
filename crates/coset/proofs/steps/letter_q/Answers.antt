-- `letter_q` hands on the letter that a turn writes; the turn keeps its equation, with plus (`turn_equation`). Assumes nothing.
use mathlib.Core.Path.{◌∙◌, ap}
use mir.Facts.{to_z-of_z}
use mir.Syntax.{w16}
use Rattle.polygon.specs.Inner.Tables.{letters_of}
use Rattle.coset.proofs.Positions.{turn_equation}
use borrow.Author.Rules.{rules}
use Rattle.coset.proofs.steps.letter_q.Goals as goal

pub returns : goal.returns
returns c =
    let s = c in
    let m = c.letter_q in
    let e = ap letters_of (to_z-of_z {w = w16} {z = m.result} (record { sfits = m.type_inv })) ∙ m.ensures in
    record { result_value = e; step_equation = turn_equation s.args.v s.args.t.now s.requires.0.tables.symbol s.args.inverse s.args.p _ s.requires.1 e }
