-- `print_lines` goes over the table. The loop's invariant: the first i lines are printed (`Printing`), so that there is
-- room for the next one. Assumes nothing.
use Rattle.query_text.proofs.SheetPrinting.{Printing}
use Rattle.query_text.proofs.sheet_text.print_lines.Given as goal

abbrev pub invariant-loop-i : goal.invariant-loop-i
invariant-loop-i l = Printing l.lines l.letters l.i l.end l.initial.out l.out
