-- `cut_answer` meets its contract, by the answer to the text. Assumes nothing.
use Rattle.std.specs.Prelude.{Err}
use mathlib.Core.Path.{sym, ap, ◌∙◌}
use Rattle.cycle_texts.specs.Inner.Ends.{cut_answer}
use Rattle.cycle_texts.proofs.cycles_text.cut_answer.Goals as goal

pub returns-in-Ok : goal.returns-in-Ok
returns-in-Ok c = sym (ap (cut_answer c.args.end) c.in-Ok.is)

pub returns-in-Err : goal.returns-in-Err
returns-in-Err c =
    let s = c in
    ap Err c.cut_refusal.ensures ∙ sym (ap (cut_answer s.args.end) c.in-Err.is)
