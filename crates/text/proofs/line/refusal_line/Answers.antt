-- `text::line::refusal_line` meets its contract: it is one line. Assumes nothing.
use mathlib.Core.Path.{sym}
use Rattle.text.specs.Line.{refusal_line}
use Rattle.text.proofs.line.refusal_line.Goals as goal

pub returns : goal.returns
unfolding refusal_line
returns c = rw (sym c.number.ensures, sym c.place.ensures) c.line_of.ensures.0
