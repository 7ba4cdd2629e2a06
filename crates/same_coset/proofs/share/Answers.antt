-- `share` compares the places to which the two matrices lead (`shares`). Assumes nothing.
use Rattle.same_coset.proofs.Single.{shares}
use Rattle.same_coset.proofs.share.Goals as goal

pub returns : goal.returns
returns c =
    let s = c in
    let p = c.arrive_both-first in
    λ v t w₀ ok g. shares ok g s.requires.1 s.requires.2 p.result.0 p.result.1 p.ensures.arrived p.ensures.arrived_2
