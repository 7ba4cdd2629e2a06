-- `inverse`: h is tried. Assumes nothing.
use native.Mathlib.Omega.{arith}
use Rattle.prime_units.proofs.Numbers.{product_low, Inverting, inverting_start, inverting_more, inverting_end}
use Prim.Native.Nat.{◌-◌, ◌+◌, ◌≤◌, ◌<◌}
use borrow.Author.Rules.{rules}
use Rattle.prime_units.proofs.inverse.Given as goal

abbrev pub invariant-loop-h : goal.invariant-loop-h
invariant-loop-h l = Inverting l.q l.g l.h
