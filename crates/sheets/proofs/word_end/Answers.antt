-- `word_end` is its definition, and the end of a word fits. Assumes nothing.
use mathlib.Core.Path.{sym, ap}
use native.Mathlib.Omega.{arith}
use Rattle.call.specs.Refusal.{Answer}
use Rattle.word.specs.declared.FoundWord.{FoundWord}
use Rattle.sheets.specs.Sheet.{word_end}
use Rattle.sheets.proofs.word_end.Goals as goal

pub overflow_add-result : goal.overflow_add-result
overflow_add-result c = omega (arith, c.requires.word _ _ _ c.in-Ok.is)

pub returns-in-Ok : goal.returns-in-Ok
returns-in-Ok c =
    let s = c in
    ap (λ (x : Answer FoundWord). word_end x s.args.next) (sym c.in-Ok.is)
