use mathlib.Core.Path.{◌≡◌}
use Prim.Native.Nat.{◌+◌, ◌*◌, ◌≤◌}
use native.Mathlib.Numerals.{add-one}
use native.Mathlib.Omega.{arith}
use lib.ListN.{length}
use borrow.Author.Rules.{rules}
use Rattle.matrix.specs.Matrix.{nth}
use Rattle.matrix.proofs.Bounds.{kept}
use Rattle.towers.specs.Tower.{or_zero, from_entry, vertices_at}
use Rattle.towers.proofs.Entries.{starts_first, starts_on, room_here, room_on}
use Rattle.towers.proofs.start_of.Goals.{After-or_zero, In-loop-i}
use Rattle.towers.proofs.start_of.Goals as goal

pub loop-i-init : goal.loop-i-init
loop-i-init c = starts_first _

-- the entry that is passed is whole
whole : (c : In-loop-i) → 3 * vertices_at c.args.t.now c.loop-i.i + 3 ≤ length
    (from_entry c.args.t.now c.loop-i.i)
whole c = c.requires.fits c.loop-i.i c.loop-i-test.true

-- its v was read
read : (c : After-or_zero) → c.or_zero.result ≡ or_zero
    (nth c.args.t.now (c.loop-i.p + 1))
read c =
    let l = c in
    rw (kept (nth l.args.t.now (l.loop-i.p + 1)) c.or_zero-arg-1.given) at c.or_zero.ensures

room : (c : After-or_zero) → c.loop-i.p + (3 * c.or_zero.result + 3) ≤ length
    c.args.t.now
room c = let l = c in room_on l.loop-i.invariant (whole (goal.at.After-or_zero c).In-loop-i) c.or_zero.result (read c)

pub overflow_add-p : goal.overflow_add-p
overflow_add-p c = let h = room_here c.loop-i.invariant (whole c) in search rules

pub offset_bounds-t-p : goal.offset_bounds-t-p
offset_bounds-t-p c = let h = room_here c.loop-i.invariant (whole c) in search rules

pub bounds-t-p : goal.bounds-t-p
bounds-t-p c = let h = room_here c.loop-i.invariant (whole c) in search rules

pub overflow_mul-p : goal.overflow_mul-p
overflow_mul-p c = let h = room c in search rules

pub overflow_add-p-in-loop-i : goal.overflow_add-p-in-loop-i
overflow_add-p-in-loop-i c = let h = room c in search rules

pub overflow_add-p-in-loop-i-2 : goal.overflow_add-p-in-loop-i-2
overflow_add-p-in-loop-i-2 c = let h = room c in search rules

pub loop-i-preserved : goal.loop-i-preserved
loop-i-preserved c =
    let l = c in
    starts_on l.loop-i.invariant (whole (goal.at.loop-i-preserved c).In-loop-i) c.or_zero.result (read c) (l.loop-i.i + 1) (add-one l.loop-i.i)

pub returns : goal.returns
returns c = let e : c.loop-i.i ≡ c.args.e = omega (arith, c.loop-i.auto.i-end, c.loop-i-test.false) in rw e at c.loop-i.invariant
