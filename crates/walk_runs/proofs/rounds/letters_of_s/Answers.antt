-- `letters_of_s` counts the letter that the table has. Assumes nothing.
use mathlib.Core.Path.{ap, ◌∙◌}
use mir.Facts.{to_z-of_z}
use mir.Syntax.{w16}
use lib.ListN.{length}
use lib.IntN.{ℤ}
use Rattle.coset.specs.Positions.{letters_of}
use Rattle.walk_runs.proofs.rounds.letters_of_s.Goals as goal

pub returns : goal.returns
returns c =
    let l = c.letter-z in
    let k = to_z-of_z {w = w16} {z = l.result} (record { sfits = l.type_inv }) in
    c.letters_in.ensures ∙ ap (λ (y : ℤ). length (letters_of y)) k ∙ ap length l.ensures
