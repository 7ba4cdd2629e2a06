-- `text::magnitude`: the digits from the index on, behind the number so far, are those of the whole. Assumes nothing.
use mathlib.Core.Path.{◌≡◌}
use Prim.Native.Nat.{◌≤◌}
use lib.ListN.{drop}
use Rattle.text.specs.Number.{natural_from, onward, within}
use Rattle.text.proofs.numeral.magnitude.Given as goal

abbrev pub invariant-loop-digit : goal.invariant-loop-digit
invariant-loop-digit l = record {
  bounded : l.m ≤ l.most;
  same : within l.most (natural_from l.digits) ≡ within l.most (onward l.m (drop l.digit-index l.digits));
}
