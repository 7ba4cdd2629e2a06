-- `turn`: an outer face stays (`turn_stays`), and a corner goes to the one that the turn leads to (`turn_is`). Assumes nothing.
use native.Mathlib.Omega.{arith}
use Rattle.coset.proofs.Noted.{turn_stays, turn_is}
use borrow.Author.Rules.{rules}
use Rattle.coset.proofs.steps.turn.Goals as goal

pub returns-then-v-p : goal.returns-then-v-p
returns-then-v-p c = let s = c in turn_stays s.args.v s.args.p s.args.inverse c.if-v-p.true

pub returns : goal.returns
returns c =
    let s = c in
    let r = c.next_corner in
    turn_is s.args.v s.args.p s.args.inverse r.result (omega (arith, c.if-v-p.false)) r.ensures.0 r.ensures.1
