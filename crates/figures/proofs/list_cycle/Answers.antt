-- `figures::turn` meets its contract: a point that is not listed is the smallest of its cycle.
-- Assumes nothing.
use mathlib.Core.Path.{sym, ◌∙◌}
use native.Mathlib.Omega.{arith}
use Rattle.figures.proofs.Scan.{turned_old, turn_few, turn_low, turn_cycle, turn_more, turned_new}
use Rattle.figures.proofs.list_cycle.Goals as goal

pub returns-then-has : goal.returns-then-has
returns-then-has c = turned_old c.requires (sym c.has.ensures ∙ c.if-has.true)

pub mark_cycle-listed-requires : goal.mark_cycle-listed-requires
mark_cycle-listed-requires c = turn_cycle c.requires (sym c.has.ensures ∙ c.if-has.false)

pub overflow_sub-w : goal.overflow_sub-w
overflow_sub-w c =
    let pre = c.requires in
    let has = c.has in
    let if1 = c.if-has in
    let mark-cycle = c.mark_cycle-listed in
    omega (arith, turn_more pre (sym has.ensures ∙ if1.false) mark-cycle.ensures, turn_few pre)

pub overflow_add-w : goal.overflow_add-w
overflow_add-w c =
    let pre = c.requires in
    omega (arith, turn_low pre)

pub offset_bounds-w-cycles : goal.offset_bounds-w-cycles
offset_bounds-w-cycles c =
    let pre = c.requires in
    omega (arith, turn_low pre)

pub bounds-w-cycles : goal.bounds-w-cycles
bounds-w-cycles c =
    let pre = c.requires in
    omega (arith, turn_low pre)

pub overflow_add-result : goal.overflow_add-result
overflow_add-result c =
    let pre = c.requires in
    omega (arith, turn_low pre)

pub returns : goal.returns
returns c =
    let pre = c.requires in
    let has = c.has in
    let if1 = c.if-has in
    let mark-cycle = c.mark_cycle-listed in
    turned_new pre (sym has.ensures ∙ if1.false) mark-cycle.ensures
