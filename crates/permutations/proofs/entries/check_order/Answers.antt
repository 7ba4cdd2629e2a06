use mathlib.Core.Path.{◌≡◌, sym, ◌∙◌}
use native.Mathlib.Omega.{arith}
use native.Mathlib.Numerals.{add-one}
use lib.ListN.{length}
use Rattle.call.specs.declared.refusal.Refusal.TheVariants.{WrongOrder}
use Rattle.basics.proofs.Count.{clear_more}
use Rattle.permutations.proofs.Marks.{refuse_last, accept_last}
use Rattle.permutations.proofs.entries.check_order.Goals as goal

pub returns-then-is_moved : goal.returns-then-is_moved
returns-then-is_moved g c = λ moved h.
    let x = c.loop-x.x in
    refuse_last moved (length c.args.t.now) WrongOrder x (omega arith) (c.loop-x.invariant moved h)
    (sym (h x c.is_moved.result (omega arith) c.is_moved.ensures) ∙ c.if-is_moved.true)

pub loop-x-preserved : goal.loop-x-preserved
loop-x-preserved g c = λ moved h.
    let x = c.loop-x.x in
    rw add-one (clear_more moved x (c.loop-x.invariant moved h) (sym (h x c.is_moved.result (omega arith) c.is_moved.ensures) ∙ c.if-is_moved.false))

pub returns : goal.returns
returns g c = λ moved h.
    let all : c.loop-x.x ≡ length c.args.t.now = omega arith in
    accept_last moved (length c.args.t.now) WrongOrder (rw all at (c.loop-x.invariant moved h))
