-- `cusp_at` reads the cusp of a place from the record: its number, its first place by the steps, and its width (`cusp_there`). Assumes nothing.
use mathlib.Core.Path.{refl}
use Prim.Native.Nat.{◌≤◌, ◌<◌}
use native.Mathlib.Omega.{arith}
use Rattle.numbering.specs.Inner.Space.{ROOM}
use Rattle.same_coset.proofs.ByPlace.{entry_low, steps_fit, number_low, cusp_there}
use Rattle.same_coset.proofs.tables.cusp_at.Goals.{After-index-steps, After-index-x, Start}
use Rattle.same_coset.proofs.tables.cusp_at.Goals as goal

module _ (e : After-index-x) where
  abbrev start : Start
  start = (goal.at.After-index-x e).Start

  x_low : e.index-x.result < start.args.n
  x_low = entry_low start.requires.0 start.requires.1 e.index-x.ensures

module _ (e : After-index-steps) where
  abbrev x : After-index-x
  x = (goal.at.After-index-steps e).After-index-x

  steps_low : e.index-steps.result ≤ (start x).args.y
  steps_low = steps_fit (start x).requires.0 (start x).requires.1 x.index-x.ensures e.index-number.ensures e.index-steps.ensures

  k_low : e.index-number.result < ROOM
  k_low = number_low (start x).requires.0 (start x).requires.1 x.index-x.ensures e.index-number.ensures e.index-steps.ensures

pub overflow_add-x : goal.overflow_add-x
overflow_add-x c = let s = start (goal.at.overflow_add-x c).After-index-x in omega (arith, x_low (goal.at.overflow_add-x c).After-index-x, s.requires.0.room)

pub offset_bounds-w-x : goal.offset_bounds-w-x
offset_bounds-w-x c = let s = start (goal.at.offset_bounds-w-x c).After-index-x in omega (arith, x_low (goal.at.offset_bounds-w-x c).After-index-x, s.requires.0.room)

pub bounds-w-x : goal.bounds-w-x
bounds-w-x c = let s = start (goal.at.bounds-w-x c).After-index-x in omega (arith, x_low (goal.at.bounds-w-x c).After-index-x, s.requires.0.room, s.requires.0.long)

pub offset_bounds-w-x-2 : goal.offset_bounds-w-x-2
offset_bounds-w-x-2 c = let e = c in let s = start (goal.at.offset_bounds-w-x-2 c).After-index-x in omega (arith, x_low (goal.at.offset_bounds-w-x-2 c).After-index-x, s.requires.0.room)

pub bounds-w-x-2 : goal.bounds-w-x-2
bounds-w-x-2 c = let e = c in let s = start (goal.at.bounds-w-x-2 c).After-index-x in omega (arith, x_low (goal.at.bounds-w-x-2 c).After-index-x, s.requires.0.room, s.requires.0.long)

pub overflow_sub-result : goal.overflow_sub-result
overflow_sub-result c = steps_low (goal.at.overflow_sub-result c).After-index-steps

pub overflow_add-number : goal.overflow_add-number
overflow_add-number c = omega (arith, k_low (goal.at.overflow_add-number c).After-index-steps)

pub offset_bounds-w-number : goal.offset_bounds-w-number
offset_bounds-w-number c = omega (arith, k_low (goal.at.offset_bounds-w-number c).After-index-steps)

pub bounds-w-number : goal.bounds-w-number
bounds-w-number c = let s = start (goal.at.bounds-w-number c).After-index-x in omega (arith, k_low (goal.at.bounds-w-number c).After-index-steps, s.requires.0.long)

pub returns : goal.returns
returns c =
    let e = c in
    let x = e in
    let s = start (goal.at.returns c).After-index-x in
    cusp_there s.requires.0 s.requires.1 x.index-x.ensures e.index-number.ensures e.index-steps.ensures refl refl c.index.ensures
