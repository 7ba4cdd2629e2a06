-- `sign_written` is the number of a word's sign, and for any other answer the number that it was given. Assumes nothing.
use mathlib.Core.Path.{sym, ap, ◌∙◌}
use mir.Facts.{to_z-of_z}
use mir.Syntax.{w64}
use Rattle.call.specs.Refusal.{Answer}
use Rattle.word.specs.declared.FoundWord.{FoundWord}
use Rattle.engine.specs.Exported.{sign_written}
use borrow.Author.Rules.{rules}
use Rattle.engine.proofs.answers.sign_written.Goals as goal

pub returns-in-Ok : goal.returns-in-Ok
returns-in-Ok c =
    let x = c.sign_number in
    to_z-of_z {w = w64} {z = x.result} (record { sfits = x.type_inv }) ∙ x.ensures
    ∙ ap (λ (r : Answer FoundWord). sign_written r c.args.before) (sym c.in-Ok.is)

pub returns-in-Err : goal.returns-in-Err
returns-in-Err c =
    let s = c in
    to_z-of_z {w = w64} {z = s.args.before} s.ranges.before ∙ ap (λ (r : Answer FoundWord). sign_written r s.args.before) (sym c.in-Err.is)
