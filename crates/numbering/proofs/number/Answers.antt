use native.Mathlib.Omega.{arith}
use Rattle.numbering.proofs.Listing.{part_start, part_visit, part_more, part_end_lem, numbered_from}
use Rattle.numbering.proofs.number.Goals as goal

pub loop-i-init : goal.loop-i-init
loop-i-init c = part_start c.requires c.push.ensures

pub visit_at-n-requires : goal.visit_at-n-requires
visit_at-n-requires c = part_visit c.loop-i.invariant (omega arith)

pub loop-i-preserved : goal.loop-i-preserved
loop-i-preserved c = part_more c.loop-i.invariant (omega arith) c.visit_at-n.ensures

pub returns : goal.returns
returns c =
    let pre = c.requires in
    let push = c.push in
    let loop = c.loop-i in
    numbered_from pre push.ensures.frame (part_end_lem loop.invariant (omega arith))
