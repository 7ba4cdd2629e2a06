-- `answer` meets its contract: each answer of `read_two` has its lines (`lines_as`). Assumes nothing.
use Rattle.std.specs.Prelude.{Ok}
use mathlib.Core.Path.{◌≡◌, refl, sym}
use mathlib.Core.List.{List}
use Prim.Native.Nat.{ℕ, ◌≤◌}
use native.Mathlib.Omega.{arith}
use lib.IntN.{ℤ}
use lib.ListN.{length}
use lib.Seq.{length-take-le}
use Rattle.subgroup_texts.specs.Inner.TwoTexts.{CountsWithin}
use Rattle.subgroup_texts.proofs.SameReadings.{lines_as, refused_as}
use Rattle.subgroup_texts.proofs.two_texts.answer.Goals.{After-read_two-reading, In-Ok, Start}
use Rattle.subgroup_texts.proofs.two_texts.answer.Goals as goal

-- the numbers of two texts
module _ (d : In-Ok) where
  abbrev read : After-read_two-reading
  read = (goal.at.In-Ok d).After-read_two-reading

  abbrev ones : List ℤ
  ones = read.read_two-reading.new.one

  abbrev others : List ℤ
  others = read.read_two-reading.new.other

  abbrev k : ℕ
  k = d.in-Ok.k

  abbrev j : ℕ
  j = d.in-Ok.j

  told : read.read_two-reading.result ≡ Ok (k, j)
  told = d.in-Ok.is

  counted : CountsWithin k j
  counted = read.read_two-reading.ensures.within k j told

  abbrev start : Start
  start = (goal.at.After-read_two-reading read).Start

  inside : k ≤ length ones
  inside = omega (arith, counted.most, d.one-2-1.given)

  inside' : j ≤ length others
  inside' = omega (arith, counted.most', d.other-2-1.given)

pub slice_bounds-one-end : goal.slice_bounds-one-end
slice_bounds-one-end c = inside (goal.at.slice_bounds-one-end c).In-Ok

pub slice_bounds-two_lines-end : goal.slice_bounds-two_lines-end
slice_bounds-two_lines-end c = let d = c in sym (length-take-le (k (goal.at.slice_bounds-two_lines-end c).In-Ok) (ones (goal.at.slice_bounds-two_lines-end c).In-Ok) (inside (goal.at.slice_bounds-two_lines-end c).In-Ok))

pub slice_bounds-other-end : goal.slice_bounds-other-end
slice_bounds-other-end c = inside' (goal.at.slice_bounds-other-end c).In-Ok

pub slice_bounds-two_lines-end-in-Ok : goal.slice_bounds-two_lines-end-in-Ok
slice_bounds-two_lines-end-in-Ok c = let d = c in sym (length-take-le (j (goal.at.slice_bounds-two_lines-end-in-Ok c).In-Ok) (others (goal.at.slice_bounds-two_lines-end-in-Ok c).In-Ok) (inside' (goal.at.slice_bounds-two_lines-end-in-Ok c).In-Ok))

pub two_lines-requires : goal.two_lines-requires
two_lines-requires c =
    let d = c in (
      omega (arith, length-take-le (k (goal.at.two_lines-requires c).In-Ok) (ones (goal.at.two_lines-requires c).In-Ok) (inside (goal.at.two_lines-requires c).In-Ok), (counted (goal.at.two_lines-requires c).In-Ok).some),
      omega (arith, length-take-le (j (goal.at.two_lines-requires c).In-Ok) (others (goal.at.two_lines-requires c).In-Ok) (inside' (goal.at.two_lines-requires c).In-Ok), (counted (goal.at.two_lines-requires c).In-Ok).some'),
      (start (goal.at.two_lines-requires c).In-Ok).requires,
    )

pub returns-in-Err : goal.returns-in-Err
returns-in-Err c =
    let a = c in
    let r = a in
    let asked = r.args.asked in
    lines_as asked r.read_two-reading.ensures a.in-Err.is (refused_as asked a.in-Err.refusal) c.refusal_line.ensures

pub returns-in-Ok : goal.returns-in-Ok
returns-in-Ok c =
    lines_as c.args.asked c.read_two-reading.ensures c.in-Ok.is refl c.two_lines.ensures
