-- `write_pairings` writes the pairings of the d sides. The loop's invariant, `Labelled`: those of the first i stand behind the vertices,
-- and the labels among them have the numbers 1 to c, by their leftmost side. Assumes nothing.
use mathlib.Core.Path.{◌≡◌, refl, sym, ◌∙◌, ap}
use native.Mathlib.Omega.{arith}
use native.Mathlib.Numerals.{add-one}
use Prim.Native.Nat.{◌+◌, ◌-◌, ◌*◌, ◌≤◌}
use Rattle.permutations.specs.Pair.{image}
use Rattle.import_rule.specs.Fixed.{by_q}
use Rattle.import_symbol.proofs.Written.{Labelled, labelled_none, labelled_length, labelled_all, pairs_more, pairs_side}
use borrow.Author.Rules.{rules}
use Rattle.import_symbol.proofs.write.write_pairings.Given as goal

abbrev pub invariant-loop-i : goal.invariant-loop-i
invariant-loop-i l = (l.i ≤ l.d) × Labelled (image l.s) (by_q (image l.s) (image l.r)) l.initial.w l.initial.out l.d l.w l.out l.i l.c
