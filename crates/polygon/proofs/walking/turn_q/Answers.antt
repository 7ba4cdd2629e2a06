-- `turn_q`: an outer face stays (`turn_face`), and a corner goes to the one that the turn by Q leads to (`forth_is`). Assumes nothing.
use mathlib.Core.Path.{sym}
use native.Mathlib.Omega.{arith}
use Rattle.polygon.proofs.Flip.{turn_face}
use Rattle.polygon.proofs.Corner.{forth_is}
use Rattle.polygon.proofs.walking.turn_q.Goals as goal

pub returns-then-v-p : goal.returns-then-v-p
returns-then-v-p c = let s = c in sym (turn_face s.args.v s.args.p c.if-v-p.true)

pub returns : goal.returns
returns c =
    let s = c in
    let r = c.next_corner in
    forth_is s.args.v s.args.p r.result (omega (arith, c.if-v-p.false)) r.ensures.0 r.ensures.1
