-- `second_side`: the first side with the label, and then the first that isn't that one (`second_found`). Assumes nothing.
use mir.Facts.{to_z-of_z}
use native.Mathlib.Omega.{arith}
use Rattle.partner_exchange.proofs.Copied.{sides_there, second_found}
use borrow.Author.Rules.{rules}
use Rattle.partner_exchange.proofs.second_side.Goals as goal

pub find_side-a-requires : goal.find_side-a-requires
find_side-a-requires c =
    let s = c in
    (s.requires.0.most, sides_there s.args.v s.args.t.now s.args.p.now s.args.x s.requires.0 s.requires.1)

pub find_side-requires : goal.find_side-requires
find_side-requires c =
    let s = c in
    (s.requires.0.most, sides_there s.args.v s.args.t.now s.args.p.now s.args.x s.requires.0 s.requires.1)

pub returns : goal.returns
returns c =
    let s = c in
    second_found s.args.v s.args.t.now s.args.p.now s.args.x s.requires.0 s.requires.1 s.requires.2 c.find_side-a.result _
    (rw (to_z-of_z s.ranges.x) at c.find_side-a.ensures)
    (rw (to_z-of_z s.ranges.x) at c.find_side.ensures)
