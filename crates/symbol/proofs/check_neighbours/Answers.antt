-- `check_neighbours` is check 4: the first side whose ends are no neighbours is the place of its refusal. Why it may compute determinants:
-- check 3 found every entry in range. Assumes nothing.
use mathlib.Core.Path.{◌≡◌, sym, ap, ◌∙◌}
use mathlib.Core.Bool.{not}
use lib.IntN.{pos}
use Prim.Native.Nat.{◌+◌, ◌*◌}
use native.Mathlib.Omega.{arith}
use native.Mathlib.Numerals.{add-one}
use Rattle.basics.proofs.Count.{clear_less, clear_more}
use Rattle.symbol.specs.Table.{gap}
use Rattle.symbol.specs.Check.{eq_z, apart, out_of_range}
use Rattle.symbol.specs.declared.Side.{Side}
use Rattle.call.specs.declared.refusal.Refusal.TheVariants.{VertexEntry, NotNeighbours}
use Rattle.symbol.proofs.Accepted.{pass_at, passes_at}
use Rattle.symbol.proofs.Order.{refuse_first}
use Rattle.symbol.proofs.Seeking.{side_small}
use Rattle.symbol.proofs.check_neighbours.Goals.{After-neighbours}
use Rattle.symbol.proofs.check_neighbours.Goals as goal

pub neighbours-requires : goal.neighbours-requires
neighbours-requires c =
    let clear = passes_at (out_of_range c.args.t.now) (2 * c.args.v) VertexEntry c.requires.2 in
    rw c.at.ensures (side_small c.args.v c.args.t.now clear.none c.loop-i.i (omega arith))

-- what was tested at side i
tested : (c : After-neighbours) → apart c.args.v c.args.t.now c.loop-i.i ≡ not c.neighbours.result
tested c = ap not (sym (c.neighbours.ensures ∙ ap (λ (x : Side). eq_z (gap x) (pos 1)) c.at.ensures))

pub returns-then-not-neighbours : goal.returns-then-not-neighbours
returns-then-not-neighbours c =
    sym (refuse_first (apart c.args.v c.args.t.now) (c.args.v + 1) c.loop-i.i NotNeighbours (omega arith) c.loop-i.invariant
    (tested (goal.at.returns-then-not-neighbours c).After-neighbours ∙ ap not c.if-not-neighbours.true))

pub loop-i-preserved : goal.loop-i-preserved
loop-i-preserved c =
    rw add-one (clear_more (apart c.args.v c.args.t.now) c.loop-i.i c.loop-i.invariant
    (tested (goal.at.loop-i-preserved c).After-neighbours ∙ ap not c.if-not-neighbours.false))

pub returns : goal.returns
returns c =
    let test = apart c.args.v c.args.t.now in
    sym (pass_at test (c.args.v + 1) NotNeighbours (clear_less test (c.args.v + 1) c.loop-i.i (omega arith) c.loop-i.invariant))
