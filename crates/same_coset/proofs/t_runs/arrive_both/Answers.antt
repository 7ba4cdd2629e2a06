-- `arrive_both`: all of a matrix is left of it (`whole_remains`), what is left later leads where it leads. Assumes nothing.
use Rattle.matrix.specs.Matrix.{of_list}
use Rattle.same_coset.proofs.Runs.{whole_sound, whole_remains}
use Rattle.same_coset.proofs.t_runs.arrive_both.Goals as goal

pub side_by_side-requires : goal.side_by_side-requires
side_by_side-requires c =
    let s = c in
    let g = s.requires.0 in
    let one = s.requires.1 in
    let two = s.requires.2 in (
      g,
      whole_sound g c.all_of.ensures one.entries one.unit,
      whole_sound g c.all_of-2.ensures two.entries two.unit,
    )

pub returns : goal.returns
returns c =
    let k = c in
    let s = k in
    let g = s.requires.0 in
    let a = of_list s.args.a in
    let b = of_list s.args.b in record {
      arrived = c.go_on.ensures a (k.side_by_side.ensures.remains_later.remains a (whole_remains g k.all_of.ensures));
      arrived_2 = c.go_on-2.ensures b (k.side_by_side.ensures.remains_later_2.remains b (whole_remains g k.all_of-2.ensures));
    }
