-- `slide` is T^q or T^-q from a place, by the end and the width of its cusp (`slide_is`). Assumes nothing.
use mathlib.Core.Path.{◌∙◌}
use Prim.Native.Nat.{◌+◌}
use lib.ListN.{get_or}
use Rattle.same_coset.specs.Inner.Places.{WIDTH}
use Rattle.same_coset.proofs.Places.{steps_most, width_low, place_in, slide_is}
use Rattle.same_coset.proofs.t_runs.slide.Goals as goal

pub steps_on-j-requires : goal.steps_on-j-requires
steps_on-j-requires c =
    let s = c in
    rw c.index-d.ensures (width_low s.requires.0 s.args.place s.requires.1)

pub along_cusp-requires : goal.along_cusp-requires
along_cusp-requires c =
    let s = c in
    let l = width_low s.requires.0 s.args.place s.requires.1 in
    let d = get_or s.args.w.now (WIDTH + s.args.place) 0 in
    rw (c.steps_on-j.ensures, c.index-end.ensures, c.index-d.ensures)
    (place_in s.requires.0 s.args.place s.requires.1, steps_most s.args.onward s.args.q d l.0, l.1)

pub returns : goal.returns
returns c =
    let s = c in
    c.along_cusp.ensures
    ∙ rw (c.index-end.ensures, c.steps_on-j.ensures, c.index-d.ensures)
    (slide_is s.requires.0 s.args.place s.requires.1 s.args.onward s.args.q)
