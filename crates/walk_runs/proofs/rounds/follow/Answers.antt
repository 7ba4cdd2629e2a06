-- `follow`: k blocks are whole rounds and a rest (`followed`). Assumes nothing.
use mathlib.Core.Path.{ap, ◌∙◌}
use native.Mathlib.Omega.{arith}
use Rattle.walk_runs.specs.Inner.Rounds.{position_in}
use Rattle.walk_runs.proofs.Following.{standing, in_round, rest_low, times_low, onward_low, followed}
use Rattle.walk_runs.proofs.rounds.follow.Goals as goal

pub locate-arc-requires : goal.locate-arc-requires
locate-arc-requires c =
    let s = c in
    let h = standing s.requires.0 s.args.p s.requires.1 s.requires.2 in
    (h.long, h.below, h.some, h.most)

pub overflow_sub-d : goal.overflow_sub-d
overflow_sub-d c =
    let s = c in
    let q = in_round s.requires.0 s.args.p s.requires.1 s.requires.2 c.locate-arc.ensures in
    omega (arith, q.from, q.before)

pub nonzero_rem-j : goal.nonzero_rem-j
nonzero_rem-j c =
    let s = c in
    let q = in_round s.requires.0 s.args.p s.requires.1 s.requires.2 c.locate-arc.ensures in
    omega (arith, q.from, q.before)

pub nonzero_div-times : goal.nonzero_div-times
nonzero_div-times c =
    let s = c in
    let q = in_round s.requires.0 s.args.p s.requires.1 s.requires.2 c.locate-arc.ensures in
    omega (arith, q.from, q.before)

pub count_after-count-requires : goal.count_after-count-requires
count_after-count-requires c =
    let s = c in
    let q = in_round s.requires.0 s.args.p s.requires.1 s.requires.2 c.locate-arc.ensures in
    (q.sums, q.from, q.before, rest_low s.requires.0 q s.args.k, omega (arith, times_low s.requires.0 q s.args.k, s.requires.3))

pub onward-z-requires : goal.onward-z-requires
onward-z-requires c =
    let s = c in
    let q = in_round s.requires.0 s.args.p s.requires.1 s.requires.2 c.locate-arc.ensures in
    (q.from, q.before, q.sums.room, rest_low s.requires.0 q s.args.k)

pub overflow_add-z : goal.overflow_add-z
overflow_add-z c =
    let s = c in
    let q = in_round s.requires.0 s.args.p s.requires.1 s.requires.2 c.locate-arc.ensures in
    omega (arith, c.onward-z.ensures, onward_low s.requires.0 q s.args.k, q.sums.room)

pub offset_bounds-r-z : goal.offset_bounds-r-z
offset_bounds-r-z c =
    let s = c in
    let q = in_round s.requires.0 s.args.p s.requires.1 s.requires.2 c.locate-arc.ensures in
    omega (arith, c.onward-z.ensures, onward_low s.requires.0 q s.args.k, q.sums.room)

pub bounds-r-z : goal.bounds-r-z
bounds-r-z c =
    let s = c in
    let q = in_round s.requires.0 s.args.p s.requires.1 s.requires.2 c.locate-arc.ensures in
    omega (arith, c.onward-z.ensures, onward_low s.requires.0 q s.args.k, q.sums.room, q.sums.long)

pub returns : goal.returns
returns c =
    let s = c in
    let q = in_round s.requires.0 s.args.p s.requires.1 s.requires.2 c.locate-arc.ensures in
    followed s.requires.0 q s.args.k _ (c.index.ensures ∙ ap (position_in s.args.r.now) c.onward-z.ensures)
    c.count_after-count.ensures
