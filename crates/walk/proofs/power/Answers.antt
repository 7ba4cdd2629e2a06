-- `power` writes Q where the upper row is the smaller by its sum, and else Q⁻¹ (`powered`). Why no difference is below 0: the rows of a proper form
-- that is one apart compare entry by entry as their sums do (`row_takes`). Assumes nothing.
use mathlib.Core.Path.{refl}
use Rattle.matrix.specs.Euclid.{swap}
use Rattle.matrix.proofs.Form.{unimodular_swap}
use Rattle.coset.proofs.Positions.{positions}
use Rattle.walk.specs.Inner.Way.{form_of}
use Rattle.walk.proofs.Forms.{row_takes}
use Rattle.walk.proofs.Onward.{swap_proper}
use Rattle.walk.proofs.Stride.{powered}
use Rattle.walk.proofs.power.Goals as goal

pub take-requires : goal.take-requires
take-requires c =
    let put = c in
    let s = put in
    let f = form_of s.args.way in
    row_takes _ (swap f) (unimodular_swap f s.requires.1.apart) (swap_proper f s.requires.2) refl

pub returns : goal.returns
returns c =
    let put = c in
    let s = put in
    powered (positions s.requires.0.prepared.tables.symbol) _ _ _ s.requires.1.real refl put.put_q-count.ensures c.turn-to.ensures
    c.times-sign.ensures c.take.ensures
