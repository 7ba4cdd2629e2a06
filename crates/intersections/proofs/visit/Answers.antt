-- `intersections::visit` meets its contract: the image by S is entered, and then the image by R; their places are images in the tables.
-- Assumes nothing.
use borrow.Author.Rules.{rules}
use mathlib.Core.Path.{refl}
use Prim.Native.Nat.{◌<◌}
use native.Mathlib.Omega.{arith}
use lib.ListN.{length-set}
use Rattle.intersections.proofs.Images.{x_low, y_few, enters_S, enters_R, p_low, q_low, visited_long, visited}
use Rattle.intersections.proofs.visit.Goals.{After-enter-a, After-enter-arg-1, After-enter-b, After-index-x, After-index-y, Start}
use Rattle.intersections.proofs.visit.Goals as goal

-- where the cosets of the pair have been read
module _ (at : After-enter-arg-1) where
  abbrev read_x : After-index-x
  read_x = (goal.at.After-enter-arg-1 at).After-index-x

  abbrev read_y : After-index-y
  read_y = (goal.at.After-enter-arg-1 at).After-index-y

  abbrev start : Start
  start = (goal.at.After-index-x read_x).Start

  x_small : read_x.index-x.result < 4096
  x_small = x_low start.requires read_x.index-x.ensures read_y.index-y.ensures

  y_small : read_y.index-y.result < 4096
  y_small = y_few start.requires read_x.index-x.ensures read_y.index-y.ensures

abbrev args_S : After-enter-a → After-enter-arg-1
args_S first = (goal.at.After-enter-a first).After-enter-arg-1

abbrev entered_S : After-enter-b → After-enter-a
entered_S second = (goal.at.After-enter-b second).After-enter-a

pub offset_bounds-s-x : goal.offset_bounds-s-x
offset_bounds-s-x c = omega (arith, x_small (goal.at.offset_bounds-s-x c).After-enter-arg-1)

pub bounds-s-x : goal.bounds-s-x
bounds-s-x c = omega (arith, x_small (goal.at.bounds-s-x c).After-enter-arg-1, (start (goal.at.bounds-s-x c).After-enter-arg-1).requires.tables.size_a)

pub offset_bounds-s2-y : goal.offset_bounds-s2-y
offset_bounds-s2-y c = omega (arith, y_small (goal.at.offset_bounds-s2-y c).After-enter-arg-1)

pub bounds-s2-y : goal.bounds-s2-y
bounds-s2-y c = let at = c in omega (arith, y_small (goal.at.bounds-s2-y c).After-enter-arg-1, (start (goal.at.bounds-s2-y c).After-enter-arg-1).requires.tables.size_c)

pub enter-a-requires : goal.enter-a-requires
enter-a-requires c = let at = c in enters_S (start (goal.at.enter-a-requires c).After-enter-arg-1).requires (read_x (goal.at.enter-a-requires c).After-enter-arg-1).index-x.ensures (read_y (goal.at.enter-a-requires c).After-enter-arg-1).index-y.ensures

pub offset_bounds-r-x : goal.offset_bounds-r-x
offset_bounds-r-x c = omega (arith, x_small (args_S (goal.at.offset_bounds-r-x c).After-enter-a))

pub bounds-r-x : goal.bounds-r-x
bounds-r-x c = let at = args_S (goal.at.bounds-r-x c).After-enter-a in omega (arith, x_small at, (start at).requires.tables.size_b)

pub offset_bounds-r2-y : goal.offset_bounds-r2-y
offset_bounds-r2-y c = omega (arith, y_small (args_S (goal.at.offset_bounds-r2-y c).After-enter-a))

pub bounds-r2-y : goal.bounds-r2-y
bounds-r2-y c = let at = args_S (goal.at.bounds-r2-y c).After-enter-a in omega (arith, y_small at, (start at).requires.tables.size_d)

pub enter-b-requires : goal.enter-b-requires
enter-b-requires c =
    let first = (goal.at.enter-b-requires c).After-enter-a in
    let at = args_S first in
    enters_R (start at).requires (read_x at).index-x.ensures (read_y at).index-y.ensures first.enter-a.ensures

pub overflow_cast-w : goal.overflow_cast-w
overflow_cast-w c =
    let second = (goal.at.overflow_cast-w c).After-enter-b in
    let first = entered_S second in
    let at = args_S first in
    omega (arith, p_low (start at).requires (read_x at).index-x.ensures (read_y at).index-y.ensures first.enter-a.ensures second.enter-b.ensures)

pub bounds-w-i-3 : goal.bounds-w-i-3
bounds-w-i-3 c =
    let second = (goal.at.bounds-w-i-3 c).After-enter-b in
    let first = entered_S second in
    let at = args_S first in
    let v = (start at).requires in
    omega (arith, visited_long v (read_x at).index-x.ensures (read_y at).index-y.ensures first.enter-a.ensures second.enter-b.ensures, v.low, v.room)

pub overflow_cast-w-2 : goal.overflow_cast-w-2
overflow_cast-w-2 c =
    let second = (goal.at.overflow_cast-w-2 c).After-enter-b in
    let first = entered_S second in
    let at = args_S first in
    omega (arith, q_low (start at).requires (read_x at).index-x.ensures (read_y at).index-y.ensures first.enter-a.ensures second.enter-b.ensures)

pub bounds-w-i-4 : goal.bounds-w-i-4
bounds-w-i-4 c =
    let second = (goal.at.bounds-w-i-4 c).After-enter-b in
    let first = entered_S second in
    let at = args_S first in
    let v = (start at).requires in
    simp length-set (omega (
      arith,
      visited_long v (read_x at).index-x.ensures (read_y at).index-y.ensures first.enter-a.ensures second.enter-b.ensures,
      v.low,
      v.room,
    ))

pub returns : goal.returns
returns c =
    let second = (goal.at.returns c).After-enter-b in
    let first = entered_S second in
    let at = args_S first in
    visited (start at).requires (read_x at).index-x.ensures (read_y at).index-y.ensures first.enter-a.ensures second.enter-b.ensures refl refl

pub shape_of-w : goal.shape_of-w
shape_of-w c = (returns c).same
