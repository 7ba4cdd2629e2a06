use mathlib.Core.Path.{◌≡◌, ap, ◌∙◌}
use native.Mathlib.Omega.{arith}
use Rattle.text.specs.Piece.{pieces, place_at}
use Rattle.text.proofs.Walks.{walked_start, walked_more, walked_sound, place_none, place_number}
use Rattle.text.proofs.place.Goals as goal

pub loop-i-init : goal.loop-i-init
loop-i-init c = walked_start c.args.text.now

pub next_number-requires : goal.next_number-requires
next_number-requires c = (c.loop-i.invariant.inside, walked_sound c.loop-i.invariant c.requires)

pub returns-in_default : goal.returns-in_default
returns-in_default c = place_none c.loop-i.invariant c.args.k (omega arith) c.in_default.ensures

pub loop-i-preserved : goal.loop-i-preserved
loop-i-preserved c = walked_more c.loop-i.invariant c.in-Some.ensures

pub next_number-requires-2 : goal.next_number-requires-2
next_number-requires-2 c = (c.loop-i.invariant.inside, walked_sound c.loop-i.invariant c.requires)

pub returns-in_default-next_number : goal.returns-in_default-next_number
returns-in_default-next_number c = place_none c.loop-i.invariant c.args.k (omega arith) c.in_default-next_number.ensures

pub returns : goal.returns
returns c = let e : c.loop-i._i ≡ c.args.k = omega arith in
    place_number c.loop-i.invariant c.in-Some-next_number.ensures ∙ ap (place_at (pieces c.args.text.now)) e
