-- `figures::cusp_widths` meets its contract. The loop's invariant, `Scanning`: the cusps below i are listed.
-- Assumes nothing.
use Rattle.figures.proofs.Scan.{Scanning}
use Rattle.figures.proofs.cusp_widths.Given as goal

abbrev pub invariant-loop-i : goal.invariant-loop-i
invariant-loop-i l = Scanning l.n l.initial.w l.w l.counts.points l.counts.cycles l.i
