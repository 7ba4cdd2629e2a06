-- `write_vertices` writes v vertices. The loop's invariant: the entries of the first i, and then what stood there (`vertices_more`).
-- Assumes nothing.
use Rattle.import_symbol.proofs.Stored.{vertices_more, vertices_length}
use mathlib.Core.Path.{◌≡◌, refl, sym, ◌∙◌, ap}
use native.Mathlib.Omega.{arith}
use native.Mathlib.Numerals.{add-one}
use mathlib.Core.List.{◌++◌}
use lib.ListN.{drop, length}
use Prim.Native.Nat.{◌+◌, ◌-◌, ◌*◌, ◌≤◌}
use Rattle.import_symbol.specs.Inner.Writing.{vertices_to}
use borrow.Author.Rules.{rules}
use Rattle.import_symbol.proofs.write.write_vertices.Given as goal

abbrev pub invariant-loop-i : goal.invariant-loop-i
invariant-loop-i l = (l.i ≤ l.v) × (l.out ≡ vertices_to l.w l.i ++ drop (2 * l.i) l.initial.out)
