-- The loop's invariant, `Part`: the work space holds the scan after i vertices, and once vertex z + 1 is among them, the handle that it was
-- pushed with is noted.
use Rattle.polygon.proofs.Scanning.{Part}
use Rattle.polygon.proofs.cutting.scan_vertices.Given as goal

abbrev pub invariant-loop-i : goal.invariant-loop-i
invariant-loop-i l = Part l.t l.v l.z l.initial.w l.w l.progress.n l.progress.m l.under l.i
