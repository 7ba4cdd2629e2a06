use mathlib.Core.Path.{◌≡◌}
use native.Mathlib.Omega.{arith}
use lib.ListN.{length}
use Rattle.call.specs.declared.refusal.Refusal.TheVariants.{Unreached}
use Rattle.permutations.specs.Check.{not_reached}
use Rattle.permutations.proofs.Marks.{refuse_last, accept_last}
use Rattle.permutations.proofs.Queue.{mark_told}
use Rattle.permutations.proofs.reach.check_reached.Goals as goal

pub returns-then-not-reached-x : goal.returns-then-not-reached-x
returns-then-not-reached-x c =
    let s = c.args.s.now in
    let r = c.args.r.now in
    let x = c.loop-x.x in
    refuse_last (not_reached s r) (length s) Unreached x (omega arith) c.loop-x.invariant
    (mark_told s r _ x c.list_reached-reached.ensures (omega (arith, c.requires.S.most)) c.if-not-reached-x.true)

pub returns : goal.returns
returns c =
    let all : c.loop-x.x ≡ length c.args.s.now = omega arith in
    accept_last (not_reached c.args.s.now c.args.r.now) (length c.args.s.now) Unreached (rw all at c.loop-x.invariant)
