use Prim.Native.Nat.{◌-◌}
use native.Mathlib.Omega.{arith}
use Rattle.numbering.proofs.Space.{within_trans}
use Rattle.prime_units.proofs.Marks.{Trying, trying_start, trying_more}
use borrow.Author.Rules.{rules}
use Rattle.prime_units.proofs.units.find_unit.Goals as goal

pub loop-g-init : goal.loop-g-init
loop-g-init c = trying_start c.requires.2

pub try_unit-h-requires : goal.try_unit-h-requires
try_unit-h-requires c = let q = c.requires in (q.0, q.1, omega arith, c.loop-g.invariant.long)

pub returns-then-h-gt0 : goal.returns-then-h-gt0
returns-then-h-gt0 c = record {
  found_unit = c.try_unit-h.ensures.generating;
  changed_within = within_trans c.loop-g.invariant.frame
      c.try_unit-h.ensures.changed_within;
}

pub loop-g-preserved : goal.loop-g-preserved
loop-g-preserved c = trying_more c.loop-g.invariant c.try_unit-h.ensures.changed_within

pub returns : goal.returns
returns c = record { found_unit = (λ l. let no : ⊥ = omega arith in absurd no); changed_within = c.loop-g.invariant.frame }
