use Prim.Native.Nat.{◌-◌}
use native.Mathlib.Omega.{arith}
use Rattle.prime_units.proofs.Numbers.{product_low}
use Rattle.prime_units.proofs.Marks.{Running, running_start, running_next, powered_minus}
use borrow.Author.Rules.{rules}
use Rattle.prime_units.proofs.units.mark_powers.Goals as goal

pub loop-i-init : goal.loop-i-init
loop-i-init c = running_start c.requires

pub mark-requires : goal.mark-requires
mark-requires c = let r = c.loop-i.invariant in (r.marking, r.low, r.power)

pub overflow_sub-q : goal.overflow_sub-q
overflow_sub-q c = c.loop-i.invariant.low

pub mark-requires-in-loop-i : goal.mark-requires-in-loop-i
mark-requires-in-loop-i c =
    let r = c.loop-i.invariant in (
      c.mark.ensures.marking,
      omega arith,
      powered_minus c.args.q
          c.args.g c.loop-i.x r.low
          r.power,
    )

pub overflow_mul-x : goal.overflow_mul-x
overflow_mul-x c =
    let r = c.loop-i.invariant in
    omega (
      arith,
      product_low c.loop-i.x
          c.args.g 4095 4095
          (omega (arith, r.low, r.marking.q_low)) (omega (arith, r.marking.g_low, r.marking.q_low)),
    )

pub nonzero_rem-x : goal.nonzero_rem-x
nonzero_rem-x c = omega (arith, c.loop-i.invariant.marking.q_some)

pub loop-i-preserved : goal.loop-i-preserved
loop-i-preserved c =
    running_next c.loop-i.invariant
    c.mark.ensures.changed_within c.mark-in-loop-i.ensures.marking c.mark-in-loop-i.ensures.changed_within

pub returns : goal.returns
returns c = record { marking = c.loop-i.invariant.marking; changed_within = c.loop-i.invariant.frame }
