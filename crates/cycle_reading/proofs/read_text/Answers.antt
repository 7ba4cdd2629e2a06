use mathlib.Core.Path.{sym, ◌∙◌}
use native.Mathlib.Omega.{arith}
use Rattle.cycle_reading.proofs.Judging.{verdict_end, verdict_mark}
use Rattle.cycle_reading.proofs.read_text.Goals as goal
use Rattle.cycle_reading.proofs.read_text.Goals.{else-at-text-via-then-at-text+else-digit, else-at-text-via-else-at-text}

pub returns : goal.returns
returns c = let b = c.skip_blanks-at.ensures in elim c.else-at-text.branch [
  | else-at-text-via-then-at-text+else-digit w ↦
      verdict_mark _ _ b.same w.if-at-text.true _ _ (b.stops w.if-at-text.true) (sym w.digit.ensures ∙ w.if-digit.false)
  | else-at-text-via-else-at-text w ↦ verdict_end _ _ b.same _ _ (omega (arith, b.inside, w.if-at-text.false))
]
